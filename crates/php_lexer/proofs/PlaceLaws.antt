-- The places of the tokens that are read.
use Rattle.std.proofs.Common.{ℕ, ◌+◌, ◌≤◌, List, [], ◌∷◌, ◌++◌, arith}
use Rattle.php_lexer.specs.Marks.{Mark}
use Rattle.php_lexer.specs.Places.{Climbs, PlacesNeverFall}
use Rattle.php_lexer.specs.Bytes.{Text}
use Rattle.php_lexer.specs.Tokens.{Outcome, read, fault, after, Goal, code, outer_at, front_at, body, body_at, Reads, from_outer, inline, open_tag, echo_tag, outer_end, outer_open, from_front, blank, close_tag, token, open_brace, shut_brace, last_brace, quoted, quoted_fault, nested, code_end, code_open, code_fault, from_piece, bytes, variable, embedded, embedded_fault, closed, body_open, body_fault}

lower : (i k j : ℕ) (ms : List Mark) → i ≤ k → Climbs k ms j → Climbs i ms j
lower i k j [] h c = omega arith
lower i k j (m ∷ ms) h c = (let low = c.0 in omega arith, c.1)

higher : (i j k : ℕ) (ms : List Mark) → j ≤ k → Climbs i ms j → Climbs i ms k
higher i j k [] h c = omega arith
higher i j k (m ∷ ms) h c = (c.0, higher m.at j k ms h c.1)

joined : (i j k : ℕ) (ms ns : List Mark) → Climbs i ms j → Climbs j ns k → Climbs i (ms ++ ns) k
joined i j k [] ns c d = lower i j k ns c d
joined i j k (m ∷ ms) ns c d = (c.0, joined m.at j k ms ns c.1 d)

-- the tokens that were read lie from i on
OutClimbs : ℕ → Outcome → Type 0
OutClimbs i (read ts j) = Climbs i ts j
OutClimbs i (fault p k) = Unit {0}

after_one : (i k : ℕ) (m : Mark) (o : Outcome) → i ≤ m.at → m.at ≤ i + k → OutClimbs (i + k) o → OutClimbs i (after (m ∷ []) o)
unfolding OutClimbs
after_one i k m (read ts j) h l c = (h, lower m.at (i + k) j ts l c)
after_one i k m (fault p f) h l c = tt

after_many : (i j : ℕ) (us : List Mark) (o : Outcome) → Climbs i us j → OutClimbs j o → OutClimbs i (after us o)
unfolding OutClimbs
after_many i j us (read ts k) c d = joined i j k us ts c d
after_many i j us (fault p f) c d = tt

out_lower : (i k : ℕ) (o : Outcome) → i ≤ k → OutClimbs k o → OutClimbs i o
unfolding OutClimbs
out_lower i k (read ts j) h c = lower i k j ts h c
out_lower i k (fault p f) h c = tt

Placed : Goal → Outcome → Type 0
Placed (code x n q d i) o = OutClimbs i o
Placed (outer_at f n q d i) o = OutClimbs i o
Placed (front_at f n q d i) o = OutClimbs i o
Placed (body x n q i ps bs us) o = Climbs q us i → OutClimbs q o
Placed (body_at p x n q i ps bs us) o = Climbs q us i → OutClimbs q o

placed : {t : Text} {g : Goal} {o : Outcome} → Reads t g o → Placed g o
unfolding Placed OutClimbs
placed (from_outer r) = placed r
placed (inline {i = i} {k = k} {o = o} r) = after_one i k _ o (omega arith) (omega arith) (placed r)
placed (open_tag {i = i} {k = k} {o = o} r) = out_lower i (i + k) o (omega arith) (placed r)
placed (echo_tag {i = i} {o = o} r) = after_one i 3 _ o (omega arith) (omega arith) (placed r)
placed (outer_end e) = (omega arith, omega arith)
placed (outer_open e) = tt
placed (from_front r) = placed r
placed (blank {i = i} {k = k} {o = o} r) = out_lower i (i + k) o (omega arith) (placed r)
placed (close_tag {i = i} {k = k} {o = o} r) = after_one i k _ o (omega arith) (omega arith) (placed r)
placed (token {i = i} {k = k} {o = o} r) = after_one i k _ o (omega arith) (omega arith) (placed r)
placed (open_brace {i = i} {o = o} r) = after_one i 1 _ o (omega arith) (omega arith) (placed r)
placed (shut_brace {i = i} {o = o} e r) = after_one i 1 _ o (omega arith) (omega arith) (placed r)
placed (last_brace e) = (omega arith, omega arith)
placed (quoted {i = i} {j = j} {us = us} {o = o} e r m) = after_many i j us o (placed r (omega arith)) (placed m)
placed (quoted_fault e r) = tt
placed (nested e) = tt
placed (code_end e) = (omega arith, omega arith)
placed (code_open e) = tt
placed code_fault = tt
placed (from_piece r) = placed r
placed (bytes {i = i} {us = us} r) = λ c. placed r (higher _ i _ us (omega arith) c)
placed (variable {i = i} {us = us} r) = λ c. placed r (higher _ i _ us (omega arith) c)
placed (embedded {q = q} {i = i} {j = j} {us = us} {vs = vs} r m) = λ c. placed m (joined q (i + 1) j us vs (higher q i (i + 1) us (omega arith) c) (placed r))
placed (embedded_fault r) = λ c. tt
placed (closed {q = q} {i = i} {us = us}) = λ c. (omega arith, higher q i (i + 1) us (omega arith) c)
placed body_open = λ c. tt
placed body_fault = λ c. tt

pub places_never_fall : PlacesNeverFall
unfolding Placed OutClimbs
places_never_fall t ts r = (r.0, placed r.1)
