-- From what a step read to what was read from the beginning.
use Rattle.std.proofs.Common.{◌≡◌, ℕ, ◌+◌, Bool, true, false, List, [], ◌∷◌, ◌++◌, drop, refl, ap, sym, ◌∙◌, subst, append_assoc, append-nil, ◌⊎◌, inl, inr, Result, Ok, Err, IfOk, IfErr, OnOk}
use Rattle.php_lexer.specs.Bytes.{Text}
use Rattle.php_lexer.specs.Code.{outside, inside}
use Rattle.php_lexer.specs.Pieces.{piece_at}
use Rattle.php_lexer.specs.Marks.{Mark, mark_at}
use Rattle.php_lexer.specs.Tokens as tokens
use Rattle.php_lexer.specs.Tokens.{simple_kind, ends_part, too_deep}
use Rattle.php_lexer.specs.Tokens.{Outcome, read, fault, after, Goal, code, outer_at, front_at, body, body_at, Reads, from_outer, from_front, from_piece}
use Rattle.php_lexer.specs.Scan.{goal_of, FaultAt, Follows, Adds, Leads, IsPast, IsShut}
use Rattle.php_lexer.specs.declared.front.Outer.{Outer}
use Rattle.php_lexer.specs.declared.front.Outer.TheVariants as outer
use Rattle.php_lexer.specs.declared.front.Front.{Front}
use Rattle.php_lexer.specs.declared.front.Front.TheVariants as front
use Rattle.php_lexer.specs.declared.front.Simple.{Simple}
use Rattle.php_lexer.specs.declared.kinds.Kind.TheVariants as kind
use Rattle.php_lexer.specs.declared.kinds.Sign.TheVariants.{Semicolon, BraceOpen, BraceClose}
use Rattle.php_lexer.specs.declared.fault.LexKind.TheVariants.{OpenString}
use Rattle.php_lexer.specs.declared.front.Piece.{Piece}
use Rattle.php_lexer.specs.declared.kinds.Part.{Part}
use Rattle.php_lexer.specs.declared.fault.LexFault.{LexFault}
use Rattle.php_lexer.specs.declared.fault.LexFault.TheVariants.{At, Memory}
use Rattle.php_lexer.specs.declared.state.State.{State}
use Rattle.php_lexer.specs.declared.state.Around.{Around}
use Rattle.php_lexer.specs.declared.state.Next.{Next}
use Rattle.php_lexer.specs.declared.state.Next.TheVariants.{More, Done}

-- ---- the front decides

pub by_outer : {t : Text} {n q d i : ℕ} {o : Outcome} {x : Bool} {f : Outer} → x ≡ true → f ≡ outside (drop i t) → Reads t (outer_at f n q d i) o → Reads t (code x n q d i) o
by_outer {t = t} {n = n} {q = q} {d = d} {i = i} {o = o} x e r =
    subst (λ y. Reads t (code y n q d i) o) (sym x) (from_outer (subst (λ f. Reads t (outer_at f n q d i) o) e r))

pub by_front : {t : Text} {n q d i : ℕ} {o : Outcome} {x : Bool} {f : Front} → x ≡ false → f ≡ inside (drop i t) → Reads t (front_at f n q d i) o → Reads t (code x n q d i) o
by_front {t = t} {n = n} {q = q} {d = d} {i = i} {o = o} x e r =
    subst (λ y. Reads t (code y n q d i) o) (sym x) (from_front (subst (λ f. Reads t (front_at f n q d i) o) e r))

pub by_piece : {t : Text} {x : Bool} {n q i : ℕ} {ps : List Part} {bs : Text} {us : List Mark} {o : Outcome} {p : Piece}
    → p ≡ piece_at x (drop i t) → Reads t (body_at p x n q i ps bs us) o → Reads t (body x n q i ps bs us) o
by_piece {t = t} {x = x} {n = n} {q = q} {i = i} {ps = ps} {bs = bs} {us = us} {o = o} e r =
    from_piece (subst (λ p. Reads t (body_at p x n q i ps bs us) o) e r)

-- ---- the rest from where a step ended

pub goal_same : {t : Text} {x y : Bool} {n q d e i j : ℕ} {o : Outcome} → Reads t (code x n q d i) o → x ≡ y → d ≡ e → i ≡ j → Reads t (code y n q e j) o
goal_same {t = t} {x = x} {y = y} {n = n} {q = q} {d = d} {e = e} {i = i} {o = o} r a b c =
    subst (λ z. Reads t (code y n q e z) o) c (subst (λ z. Reads t (code y n q z i) o) b (subst (λ z. Reads t (code z n q d i) o) a r))

-- ---- one step and the rest

pub after-nil : (o : Outcome) → after [] o ≡ o
after-nil (read ts j) = refl
after-nil (fault p f) = refl

pub after-after : (ms ns : List Mark) (o : Outcome) → after ms (after ns o) ≡ after (ms ++ ns) o
after-after ms ns (read ts j) = ap (λ us. read us j) (sym (append_assoc ms ns ts))
after-after ms ns (fault p f) = refl

pub leads_start : {t : Text} {a : Around} {s : State} {ms : List Mark} → Leads t a (goal_of s a) ms ms (More s)
leads_start {t = t} {a = a} {s = s} {ms = ms} = record {
  added = [];
  list = sym (append-nil ms);
  reads = λ o r. subst (λ z. Reads t (goal_of s a) z) (sym (after-nil o)) r;
}

pub leads_on : {t : Text} {a : Around} {g : Goal} {s : State} {old mid new : List Mark} {next : Next}
    → Leads t a g old mid (More s) → Leads t a (goal_of s a) mid new next → Leads t a g old new next
leads_on {t = t} {g = g} {old = old} l m = record {
  added = l.added ++ m.added;
  list = m.list ∙ ap (λ z. z ++ m.added) l.list ∙ append_assoc old l.added m.added;
  reads = λ o r. subst (λ z. Reads t g z) (after-after l.added m.added o) (l.reads (after m.added o) (m.reads o r));
}

pub leads_fault : {t : Text} {a : Around} {g : Goal} {s : State} {old mid : List Mark} (e : LexFault)
    → Leads t a g old mid (More s) → FaultAt t (goal_of s a) e → FaultAt t g e
leads_fault Memory l f = tt
leads_fault (At place f) l r = l.reads (fault place f) r

pub leads_end : {t : Text} {a : Around} {g : Goal} {old new : List Mark} (next : Next) (end : ℕ)
    → Leads t a g old new next → ((o : Outcome) → o ≡ read [] end → Follows t a next o) → Adds t g old new end
leads_end {t = t} {g = g} next end l f = record {
  added = l.added;
  list = l.list;
  reads = subst (λ z. Reads t g (read z end)) (append-nil l.added) (l.reads (read [] end) (f (read [] end) refl));
}

-- ---- steps outside the code

pub inline_step : (t : Text) (a : Around) (s m : State) (k : ℕ) {old new : List Mark} → s.is_outside ≡ true → outer.Inline k ≡ outside (drop s.cursor.at t)
    → new ≡ old ++ mark_at t kind.Inline s.cursor.at k ∷ [] → IsPast s true s.depth k m → Leads t a (goal_of s a) old new (More m)
inline_step t a s m k x e l p = record {
  added = mark_at t kind.Inline s.cursor.at k ∷ [];
  list = l;
  reads = λ o r. by_outer x e (tokens.inline (goal_same r p.outside p.depth p.at));
}

pub tag_step : (t : Text) (a : Around) (s m : State) (k : ℕ) {old : List Mark} → s.is_outside ≡ true → outer.Tag k ≡ outside (drop s.cursor.at t)
    → IsPast s false s.depth k m → Leads t a (goal_of s a) old old (More m)
tag_step t a s m k {old = old} x e p = record {
  added = [];
  list = sym (append-nil old);
  reads = λ o r. by_outer x e (tokens.open_tag (goal_same (subst (λ z. Reads t (goal_of m a) z) (sym (after-nil o)) r) p.outside p.depth p.at));
}

pub echo_step : (t : Text) (a : Around) (s m : State) {old new : List Mark} → s.is_outside ≡ true → outer.Echo ≡ outside (drop s.cursor.at t)
    → new ≡ old ++ mark_at t kind.Echo s.cursor.at 3 ∷ [] → IsPast s false s.depth 3 m → Leads t a (goal_of s a) old new (More m)
echo_step t a s m x e l p = record {
  added = mark_at t kind.Echo s.cursor.at 3 ∷ [];
  list = l;
  reads = λ o r. by_outer x e (tokens.echo_tag (goal_same r p.outside p.depth p.at));
}

-- ---- the end of the text

pub finish_ok : (t : Text) (a : Around) (s : State) (g : Goal) (old new : List Mark) (r : Result Next LexFault)
    → (a.nest ≡ 0 → Reads t g (read (mark_at t kind.End s.cursor.at 0 ∷ []) s.cursor.at))
    → IfOk r (λ next. (a.nest ≡ 0) × (next ≡ Done s.cursor) × (new ≡ old ++ mark_at t kind.End s.cursor.at 0 ∷ []))
    → IfOk r (Leads t a g old new)
finish_ok t a s g old new (Ok next) ends (z, d, l) = record {
  added = mark_at t kind.End s.cursor.at 0 ∷ [];
  list = l;
  reads = λ o r.
      let is : o ≡ read [] s.cursor.at = subst (λ n. Follows t a n o) d r in
      subst (λ y. Reads t g (after (mark_at t kind.End s.cursor.at 0 ∷ []) y)) (sym is) (ends z);
}
finish_ok t a s g old new (Err e) ends h = tt

pub finish_fault : (t : Text) (a : Around) (g : Goal) (r : Result Next LexFault)
    → ((a.nest ≡ 0 → ⊥) → Reads t g (fault a.quote OpenString))
    → IfErr r (λ e. (e ≡ Memory) ⊎ ((a.nest ≡ 0 → ⊥) × (e ≡ At a.quote OpenString)))
    → IfErr r (FaultAt t g)
finish_fault t a g (Ok next) opens h = tt
finish_fault t a g (Err e) opens (inl m) = subst (FaultAt t g) (sym m) tt
finish_fault t a g (Err e) opens (inr (n, f)) = subst (FaultAt t g) (sym f) (opens n)

-- ---- steps of code

pub blank_step : (t : Text) (a : Around) (s m : State) (k : ℕ) {old : List Mark} → s.is_outside ≡ false → front.Blank k ≡ inside (drop s.cursor.at t)
    → IsPast s false s.depth k m → Leads t a (goal_of s a) old old (More m)
blank_step t a s m k {old = old} x e p = record {
  added = [];
  list = sym (append-nil old);
  reads = λ o r. by_front x e (tokens.blank (goal_same (subst (λ z. Reads t (goal_of m a) z) (sym (after-nil o)) r) p.outside p.depth p.at));
}

pub close_step : (t : Text) (a : Around) (s m : State) (k : ℕ) {old new : List Mark} → s.is_outside ≡ false → front.Close k ≡ inside (drop s.cursor.at t)
    → new ≡ old ++ mark_at t (kind.Sign Semicolon) s.cursor.at 2 ∷ [] → IsPast s true s.depth k m → Leads t a (goal_of s a) old new (More m)
close_step t a s m k x e l p = record {
  added = mark_at t (kind.Sign Semicolon) s.cursor.at 2 ∷ [];
  list = l;
  reads = λ o r. by_front x e (tokens.close_tag (goal_same r p.outside p.depth p.at));
}

pub token_step : (t : Text) (a : Around) (s m : State) (f : Simple) (k : ℕ) {old new : List Mark} → s.is_outside ≡ false → front.Token f k ≡ inside (drop s.cursor.at t)
    → new ≡ old ++ mark_at t (simple_kind f) s.cursor.at k ∷ [] → IsPast s false s.depth k m → Leads t a (goal_of s a) old new (More m)
token_step t a s m f k x e l p = record {
  added = mark_at t (simple_kind f) s.cursor.at k ∷ [];
  list = l;
  reads = λ o r. by_front x e (tokens.token (goal_same r p.outside p.depth p.at));
}

pub open_step : (t : Text) (a : Around) (s m : State) {old new : List Mark} → s.is_outside ≡ false → front.Open ≡ inside (drop s.cursor.at t)
    → new ≡ old ++ mark_at t (kind.Sign BraceOpen) s.cursor.at 1 ∷ [] → IsPast s false (s.depth + 1) 1 m → Leads t a (goal_of s a) old new (More m)
open_step t a s m x e l p = record {
  added = mark_at t (kind.Sign BraceOpen) s.cursor.at 1 ∷ [];
  list = l;
  reads = λ o r. by_front x e (tokens.open_brace (goal_same r p.outside p.depth p.at));
}

pub shut_step : (t : Text) (a : Around) (s : State) (next : Next) {old new : List Mark} → s.is_outside ≡ false → front.Shut ≡ inside (drop s.cursor.at t)
    → new ≡ old ++ mark_at t (kind.Sign BraceClose) s.cursor.at 1 ∷ [] → IsShut s a next → Leads t a (goal_of s a) old new next
shut_step t a s (More m) x e l (n, p) = record {
  added = mark_at t (kind.Sign BraceClose) s.cursor.at 1 ∷ [];
  list = l;
  reads = λ o r. by_front x e (tokens.shut_brace n (goal_same r p.outside p.depth p.at));
}
shut_step t a s (Done c) x e l (n, same, p) = record {
  added = mark_at t (kind.Sign BraceClose) s.cursor.at 1 ∷ [];
  list = l;
  reads = λ o is.
      let place : o ≡ read [] (s.cursor.at + 1) = is ∙ ap (read []) p in
      subst (λ y. Reads t (goal_of s a) (after (mark_at t (kind.Sign BraceClose) s.cursor.at 1 ∷ []) y)) (sym place) (by_front x e (tokens.last_brace n));
}

-- a step through a quoted text
pub quote_step : (t : Text) (a : Around) (s m : State) (d : Bool) {old new : List Mark} → s.is_outside ≡ false → front.Quote d ≡ inside (drop s.cursor.at t)
    → too_deep d a.nest ≡ false → Adds t (body d a.nest s.cursor.at (s.cursor.at + 1) [] [] []) old new m.cursor.at → m.is_outside ≡ false → m.depth ≡ s.depth
    → Leads t a (goal_of s a) old new (More m)
quote_step t a s m d x e n r y z = record {
  added = r.added;
  list = r.list;
  reads = λ o q. by_front x e (tokens.quoted n r.reads (goal_same q y z refl));
}

pub quote_fault : (t : Text) (a : Around) (s : State) (d : Bool) (e : LexFault) → s.is_outside ≡ false → front.Quote d ≡ inside (drop s.cursor.at t)
    → too_deep d a.nest ≡ false → FaultAt t (body d a.nest s.cursor.at (s.cursor.at + 1) [] [] []) e → FaultAt t (goal_of s a) e
quote_fault t a s d Memory x e n f = tt
quote_fault t a s d (At p k) x e n f = by_front x e (tokens.quoted_fault n f)

pub shut_ok : (t : Text) (a : Around) (s : State) (old new : List Mark) (r : Result Next LexFault) → s.is_outside ≡ false → front.Shut ≡ inside (drop s.cursor.at t)
    → OnOk r (new ≡ old ++ mark_at t (kind.Sign BraceClose) s.cursor.at 1 ∷ []) → IfOk r (IsShut s a) → IfOk r (Leads t a (goal_of s a) old new)
shut_ok t a s old new (Ok next) x e l h = shut_step t a s next x e l h
shut_ok t a s old new (Err f) x e l h = tt

-- the same of a step that names its text and its end in another way
pub leads_next : {t : Text} {a : Around} {g : Goal} {s : State} {old mid new : List Mark} (u : Text) (n m : Next)
    → u ≡ t → n ≡ m → Leads t a g old mid (More s) → Leads u a (goal_of s a) mid new n → Leads t a g old new m
leads_next {t = t} {a = a} {g = g} {s = s} {mid = mid} {new = new} u n m e f l k =
    leads_on l (subst (λ z. Leads t a (goal_of s a) mid new z) f (subst (λ z. Leads z a (goal_of s a) mid new n) e k))

pub fault_next : {t : Text} {a : Around} {g : Goal} {s : State} {old mid : List Mark} (u : Text) (e : LexFault)
    → u ≡ t → Leads t a g old mid (More s) → FaultAt u (goal_of s a) e → FaultAt t g e
fault_next {t = t} {a = a} {s = s} u e f l h = leads_fault e l (subst (λ z. FaultAt z (goal_of s a) e) f h)

pub adds_at : {t : Text} {g : Goal} {old new : List Mark} {i j : ℕ} → i ≡ j → Adds t g old new i → Adds t g old new j
adds_at {t = t} {g = g} {old = old} {new = new} e h = subst (λ z. Adds t g old new z) e h
