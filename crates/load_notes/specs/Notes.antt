-- The lines that tell what came of loading an application or a copy.
use Rattle.std.specs.Prelude.{ℕ, List, [], ◌∷◌, ◌++◌, codes, is_some, if◌then◌else◌}
use Rattle.std.specs.List.{count_by, sum_by}
use Rattle.std.specs.Fmt.{decimal}
use Rattle.less_terms.specs.Lines.{line_count}
use Rattle.php_lexer.specs.declared.fault.FormName.{FormName}
use Rattle.php_lexer.specs.declared.fault.FormName.TheVariants as form
use Rattle.php_lexer.specs.declared.fault.LexKind.{LexKind}
use Rattle.php_lexer.specs.declared.fault.LexKind.TheVariants as lex
use Rattle.php_parser.specs.declared.fault.ParseKind.{ParseKind}
use Rattle.php_parser.specs.declared.fault.ParseKind.TheVariants as parse
use Rattle.app_load.specs.declared.fault.LimitName.{LimitName}
use Rattle.app_load.specs.declared.fault.LimitName.TheVariants as limit
use Rattle.app_load.specs.declared.fault.AppKind.{AppKind}
use Rattle.app_load.specs.declared.fault.AppKind.TheVariants as kind
use Rattle.app_load.specs.declared.fault.CopyKind.{CopyKind}
use Rattle.app_load.specs.declared.fault.CopyKind.TheVariants as copy
use Rattle.app_load.specs.Files.{File}
use Rattle.app_load.specs.Applications.{functions_of_all}

-- ---- kinds of faults: the kind's name in lower case, then each name that it carries after a space

abbrev pub form_text : FormName → List ℕ
form_text form.Float = codes "float"
form_text form.Octal = codes "octal"
form_text form.Number = codes "number"
form_text form.Heredoc = codes "heredoc"
form_text form.Backtick = codes "backtick"
form_text form.Dollar = codes "dollar"
form_text form.Offset = codes "offset"
form_text form.Unicode = codes "unicode"
form_text form.Cast = codes "cast"
form_text form.Power = codes "power"
form_text form.Spread = codes "spread"
form_text form.Bits = codes "bits"
form_text form.Coalesce = codes "coalesce"
form_text form.Namespace = codes "namespace"
form_text form.Name = codes "name"
form_text form.Nesting = codes "nesting"

abbrev pub lex_text : LexKind → List ℕ
lex_text lex.BadByte = codes "lex badbyte"
lex_text lex.OpenString = codes "lex openstring"
lex_text lex.OpenComment = codes "lex opencomment"
lex_text (lex.Form name) = codes "lex form " ++ form_text name

abbrev pub parse_text : ParseKind → List ℕ
parse_text parse.Unexpected = codes "parse unexpected"
parse_text (parse.LeftOut name) = codes "parse leftout " ++ name.text
parse_text parse.Depth = codes "parse depth"

abbrev pub limit_text : LimitName → List ℕ
limit_text limit.Path = codes "limit path"
limit_text limit.Files = codes "limit files"
limit_text limit.Total = codes "limit total"
limit_text limit.Static = codes "limit static"
limit_text limit.File = codes "limit file"
limit_text limit.Functions = codes "limit functions"

abbrev pub kind_text : AppKind → List ℕ
kind_text (kind.Lex k) = lex_text k
kind_text (kind.Parse k) = parse_text k
kind_text (kind.ReservedWord word) = codes "reservedword " ++ word
kind_text (kind.Twice name) = codes "twice " ++ name
kind_text kind.BreakDepth = codes "breakdepth"
kind_text (kind.Limit name) = limit_text name

abbrev pub copy_kind_text : CopyKind → List ℕ
copy_kind_text copy.BadFile = codes "badfile"
copy_kind_text copy.Placeholder = codes "placeholder"

-- ---- notes

-- a file and a line, before what is told of them
abbrev pub place_text : List ℕ → ℕ → List ℕ
place_text file line = file ++ (codes ":" ++ (decimal line ++ codes ": "))

-- why an application is refused; of a limit of the whole the file is empty and the line is 0
abbrev pub app_note : List ℕ → ℕ → AppKind → List ℕ
app_note file line k = codes "less: app " ++ (place_text file line ++ (kind_text k ++ 10 ∷ []))

-- why the copy of a role is refused
abbrev pub copy_note : List ℕ → List ℕ → ℕ → CopyKind → List ℕ
copy_note role file line k = codes "less: copy " ++ (role ++ (codes " " ++ (place_text file line ++ (copy_kind_text k ++ 10 ∷ []))))

-- ---- what was accepted

-- how many files are PHP files
abbrev pub php_count : List File → ℕ
php_count fs = count_by (λ f. is_some f.tree) fs

-- the lines of a PHP file
abbrev pub php_lines : File → ℕ
php_lines f = if is_some f.tree then line_count f.text else 0

-- an accepted application: its PHP files, their functions with a body, and their lines
abbrev pub accepted_text : List File → List ℕ
accepted_text fs =
    codes "ok " ++ (decimal (php_count fs) ++ (codes " files " ++ (decimal (functions_of_all fs) ++ (codes " functions " ++ (decimal (sum_by php_lines fs) ++ (codes " lines" ++ 10 ∷ []))))))
