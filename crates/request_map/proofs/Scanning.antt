-- The scan of a text that begins with a head ends exactly where the head does.
use Rattle.std.proofs.Common.{◌≡◌, ℕ, ◌+◌, ◌<◌, ◌≤◌, Bool, false, ◌==◌, List, [], ◌∷◌, ◌++◌, length, refl, sym, ap, ◌∙◌, arith, append_assoc, IsTrue, flat_map}
use Rattle.std.proofs.lemmas.Bool.{ne_eqb, false≢true}
use Rattle.std.proofs.lemmas.List.{take_all}
use Rattle.std.proofs.lemmas.List.Elements.{All-head, All-tail}
use Rattle.std.specs.List.{All}
use Rattle.httparse.specs.Grammar.{AllPass, is_token_byte, is_uri_byte, is_value_byte, LineEnd, crlf, lf, print_end, print_blank, print_version, Field, IsField, print_field, RequestHead, IsRequestHead, print_request}
use Rattle.request_map.specs.Heads.{BeginsWith}
use Rattle.request_map.specs.Scans.{scan_after, is_ended, until_end, head_part}
use Rattle.request_map.specs.declared.scan.Scan.{Scan}
use Rattle.request_map.specs.declared.scan.Scan.TheVariants.{Blank, Line, Fresh}
use Rattle.request_map.specs.declared.TheConstants.{MAX_HEAD_BYTES}

-- ---- scans that go on

-- the scan goes over the bytes from one place to another, and does not end
abbrev pub Goes : Scan → List ℕ → Scan → Type 0
Goes from [] to = from ≡ to
Goes from (byte ∷ bytes) to = (is_ended (scan_after from byte) ≡ false) × Goes (scan_after from byte) bytes to

pub goes_append : (a b c : Scan) (x y : List ℕ) → Goes a x b → Goes b y c → Goes a (x ++ y) c
goes_append a b c [] y g h = rw g h
goes_append a b c (byte ∷ x) y g h = (g.0, goes_append (scan_after a byte) b c x y g.1 h)

pub goes_until : (a b : Scan) (x y : List ℕ) → Goes a x b → until_end a (x ++ y) ≡ x ++ until_end b y
goes_until a b [] y g = rw g
goes_until a b (byte ∷ x) y g = rw g.0 (ap (λ bytes. byte ∷ bytes) (goes_until (scan_after a byte) b x y g.1))

-- ---- bytes

-- a byte that passes a test is none that fails it
other_byte : (test : ℕ → Bool) (fails byte : ℕ) → test fails ≡ false → IsTrue (test byte) → (byte == fails) ≡ false
other_byte test fails byte fail pass = ne_eqb byte fails (λ e. false≢true (sym fail ∙ ap test (sym e) ∙ pass))

-- bytes of a line
line_goes : (test : ℕ → Bool) → test 10 ≡ false → (x : List ℕ) → AllPass test x → Goes Line x Line
line_goes test fail [] h = refl
line_goes test fail (byte ∷ x) h =
    let other = other_byte test 10 byte fail (All-head (λ b. IsTrue (test b)) byte x h) in
    rw other (refl, line_goes test fail x (All-tail (λ b. IsTrue (test b)) byte x h))

-- a line begins with a byte that is neither CR nor LF
word_goes : (test : ℕ → Bool) → test 10 ≡ false → test 13 ≡ false → (x : List ℕ) → 0 < length x → AllPass test x → Goes Blank x Line × Goes Fresh x Line
word_goes test fail none [] short h = absurd (omega arith)
word_goes test fail none (byte ∷ x) short h =
    let head = All-head (λ b. IsTrue (test b)) byte x h in
    let other = other_byte test 10 byte fail head in
    let second = other_byte test 13 byte none head in
    let rest = line_goes test fail x (All-tail (λ b. IsTrue (test b)) byte x h) in
    (rw (other, second) (refl, rest), rw (other, second) (refl, rest))

end_goes : (e : LineEnd) → Goes Line (print_end e) Fresh
end_goes crlf = (refl, (refl, refl))
end_goes lf = (refl, refl)

blank_goes : (ends : List LineEnd) → Goes Blank (print_blank ends) Blank
blank_goes [] = refl
blank_goes (crlf ∷ ends) = (refl, (refl, blank_goes ends))
blank_goes (lf ∷ ends) = (refl, blank_goes ends)

token_lf : is_token_byte 10 ≡ false
unfolding is_token_byte
token_lf = refl

token_cr : is_token_byte 13 ≡ false
unfolding is_token_byte
token_cr = refl

-- ---- the parts of a head

field_goes : (f : Field) → IsField f → Goes Fresh (print_field f) Fresh
field_goes f h =
    let name = (word_goes is_token_byte token_lf token_cr f.name h.name.0 h.name.1).1 in
    let value : Goes Line (58 ∷ f.raw) Line = (refl, line_goes is_value_byte refl f.raw h.raw) in
    goes_append Fresh Line Fresh (f.name ++ 58 ∷ f.raw) (print_end f.end) (goes_append Fresh Line Line f.name (58 ∷ f.raw) name value) (end_goes f.end)

fields_go : (fields : List Field) → All IsField fields → Goes Fresh (flat_map print_field fields) Fresh
fields_go [] h = refl
fields_go (f ∷ fields) h =
    goes_append Fresh Fresh Fresh (print_field f) (flat_map print_field fields) (field_goes f (All-head IsField f fields h)) (fields_go fields (All-tail IsField f fields h))

version_goes : (minor : ℕ) → minor ≤ 1 → Goes Line (print_version minor) Line
version_goes minor h =
    let other : (48 + minor == 10) ≡ false = ne_eqb (48 + minor) 10 (omega arith) in
    (refl, (refl, (refl, (refl, (refl, (refl, (refl, rw other (refl, refl))))))))

-- a head without the empty line that ends it
front_of : RequestHead → List ℕ
front_of h = print_blank h.blank ++ h.method ++ 32 ∷ h.target ++ 32 ∷ print_version h.minor ++ print_end h.line_end ++ flat_map print_field h.fields

front_goes : (h : RequestHead) → IsRequestHead h → Goes Blank (front_of h) Fresh
unfolding front_of
front_goes h i =
    let method = (word_goes is_token_byte token_lf token_cr h.method i.method.0 i.method.1).0 in
    let target : Goes Line (32 ∷ h.target) Line = (refl, line_goes is_uri_byte refl h.target i.target.1) in
    let version : Goes Line (32 ∷ print_version h.minor) Line = (refl, version_goes h.minor i.minor) in
    let one = goes_append Blank Blank Line (print_blank h.blank) h.method (blank_goes h.blank) method in
    let two = goes_append Blank Line Line (print_blank h.blank ++ h.method) (32 ∷ h.target) one target in
    let three = goes_append Blank Line Line (print_blank h.blank ++ h.method ++ 32 ∷ h.target) (32 ∷ print_version h.minor) two version in
    let four = goes_append Blank Line Fresh (print_blank h.blank ++ h.method ++ 32 ∷ h.target ++ 32 ∷ print_version h.minor) (print_end h.line_end) three (end_goes h.line_end) in
    goes_append Blank Fresh Fresh (print_blank h.blank ++ h.method ++ 32 ∷ h.target ++ 32 ∷ print_version h.minor ++ print_end h.line_end) (flat_map print_field h.fields) four (fields_go h.fields i.fields)

-- the empty line ends the scan
last_ends : (e : LineEnd) (rest : List ℕ) → until_end Fresh (print_end e ++ rest) ≡ print_end e
last_ends crlf rest = refl
last_ends lf rest = refl

printed : (h : RequestHead) → print_request h ≡ front_of h ++ print_end h.last
unfolding print_request front_of
printed h = sym (append_assoc (print_blank h.blank ++ h.method ++ 32 ∷ h.target ++ 32 ∷ print_version h.minor ++ print_end h.line_end) (flat_map print_field h.fields) (print_end h.last))

scan_of_head : (h : RequestHead) (rest : List ℕ) → IsRequestHead h → until_end Blank (print_request h ++ rest) ≡ print_request h
scan_of_head h rest i =
    rw (printed h, append_assoc (front_of h) (print_end h.last) rest)
    (goes_until Blank Fresh (front_of h) (print_end h.last ++ rest) (front_goes h i) ∙ ap (λ x. front_of h ++ x) (last_ends h.last rest))

-- what is read in search of a head is the head, where there is one
pub head_exact : (input : List ℕ) (h : RequestHead) (rest : List ℕ) → BeginsWith input h rest → head_part input ≡ print_request h
head_exact input h rest b =
    rw b.reads.1 (rw (scan_of_head h rest b.reads.0) (take_all MAX_HEAD_BYTES (print_request h) b.short))
