use Rattle.std.proofs.Common.{◌≡◌, ◌∙◌, ap, subst, Some, None}
use Rattle.std.specs.Option.{option_map}
use Rattle.app_load.specs.Files.{files_of}
use Rattle.php_frames.specs.Progress.{closed}
use Rattle.plain_page.specs.Pages.{page_of_files}
use Rattle.less_cmd.specs.Reply.{index_path, page_result}
use Rattle.less_cmd.proofs.Answers.{page_reply, no_page}
use Rattle.less_cmd.proofs.play.page_reply.Goals as goal

pub returns-in_ok-reply_bytes-in-Some : goal.returns-in_ok-reply_bytes-in-Some
returns-in_ok-reply_bytes-in-Some c =
    let ran = c.in_ok-run.ensures index_path ∙ ap (option_map (closed index_path)) c.in-Some.is in
    let of_program = subst (λ fs. option_map page_result (page_of_files (files_of fs)) ≡ Some (closed index_path c.in-Some.run')) c.files.ensures.files ran in
    page_reply (files_of c.args.program.now) c.in-Some.run' _ of_program (c.in_ok-reply_bytes-in-Some.ensures index_path)

pub returns-in-None : goal.returns-in-None
returns-in-None c =
    let ran = c.in_ok-run.ensures index_path ∙ ap (option_map (closed index_path)) c.in-None.is in
    let of_program = subst (λ fs. option_map page_result (page_of_files (files_of fs)) ≡ None) c.files.ensures.files ran in
    no_page (files_of c.args.program.now) of_program
