-- The text of a removed file: its tokens are the placeholder's.
use Rattle.std.proofs.Common.{◌≡◌, ℕ, suc, ◌+◌, ◌==◌, true, false, List, [], ◌∷◌, ◌++◌, refl, drop, length, ap, sym, subst, ◌∙◌, arith}
use Rattle.std.specs.Prelude.{codes}
use Rattle.std.proofs.lemmas.Grind.{common_steps}
use Rattle.php_lexer.specs.Bytes.{Text}
use Rattle.php_lexer.specs.Code.{outside, inside}
use Rattle.php_lexer.specs.Until.{until, tag_len}
use Rattle.php_lexer.specs.Marks.{Mark, mark_at}
use Rattle.php_lexer.specs.Tokens as r
use Rattle.php_lexer.specs.Tokens.{Outcome, read, fault, after, Goal, code, outer_at, front_at, Reads, IsTokens}
use Rattle.php_lexer.specs.declared.front.Front.TheVariants as front
use Rattle.php_lexer.specs.declared.front.Outer.TheVariants as outer
use Rattle.php_lexer.specs.declared.front.Simple.TheVariants as simple
use Rattle.php_lexer.specs.declared.kinds.Kind.TheVariants as kind
use Rattle.php_lexer.specs.declared.kinds.Sign.TheVariants as s
use Rattle.app_load.specs.Copies.{file_stub}
use Rattle.copy_origins.proofs.Fronts.{shut_front, semi_front, no, filled}
use Rattle.copy_origins.proofs.Steps.{Leads, then, next, token_leads, front_of, blank_led}
use Rattle.copy_origins.proofs.Marks.{IsBare, StubMarks, file_kinds, opening_text, opening_marks, opened_end, opened_rest, opening, word_text}

abbrev file_rest : List ℕ → List ℕ
file_rest path = opening_text (codes "file") path (41 ∷ 59 ∷ 10 ∷ [])

not_five : (n : ℕ) → (suc (suc (suc (suc (suc (suc n))))) == 5) ≡ false
not_five n = grind (arith, common_steps)

tag_is : (z : List ℕ) → tag_len (codes "<?php " ++ z) ≡ 6
tag_is z = no (length (codes "<?php " ++ z) == 5) _ _ (not_five (length z))

outer_is : (z : List ℕ) → outside (codes "<?php " ++ z) ≡ outer.Tag 6
unfolding outside until
outer_is z = grind (arith, common_steps, tag_is z, filled)

blank_is : inside (10 ∷ []) ≡ front.Blank 1
unfolding inside
blank_is = refl

end_is : inside [] ≡ front.End
unfolding inside
end_is = refl

outer_of : {t : Text} {n q d i : ℕ} {o : Outcome} → outside (drop i t) ≡ outer.Tag 6 → Reads t (code true n q d i) o → Reads t (code false n q d (i + 6)) o
outer_of {t} {n} {q} {d} {i} {o} e (r.from_outer h) = open_of (subst (λ f. Reads t (outer_at f n q d i) o) e h)
  where
    open_of : {o : Outcome} → Reads t (outer_at (outer.Tag 6) n q d i) o → Reads t (code false n q d (i + 6)) o
    open_of (r.open_tag h) = h

record Ends (t : Text) (j : ℕ) (us : List Mark) : Type 0 where
  is : us ≡ mark_at t kind.End j 0 ∷ []

end_of : {t : Text} {n q d j end : ℕ} {us : List Mark} → Reads t (front_at front.End n q d j) (read us end) → Ends t j us
end_of (r.code_end e) = record { is = refl }

module _ (path : List ℕ) (p : IsBare path) where
  abbrev t : Text
  t = file_stub path

  abbrev j : ℕ
  j = opened_end 6 (codes "file") path

  at_word : drop 6 t ≡ file_rest path
  at_word = refl

  at_shut : drop j t ≡ 41 ∷ 59 ∷ 10 ∷ []
  at_shut = opened_rest t 0 0 0 6 (codes "file") path (41 ∷ 59 ∷ 10 ∷ []) at_word

  at_semi : drop (j + 1) t ≡ 59 ∷ 10 ∷ []
  at_semi = next t j 1 (41 ∷ []) (59 ∷ 10 ∷ []) at_shut refl

  at_line : drop (j + 1 + 1) t ≡ 10 ∷ []
  at_line = next t (j + 1) 1 (59 ∷ []) (10 ∷ []) at_semi refl

  at_end : drop (j + 1 + 1 + 1) t ≡ []
  at_end = next t (j + 1 + 1) 1 (10 ∷ []) [] at_line refl

  line_leads : Leads t (code false 0 0 0 (j + 1 + 1)) [] (code false 0 0 0 (j + 1 + 1 + 1))
  line_leads = λ o h. blank_led (front_of t 0 0 0 (j + 1 + 1) (front.Blank 1) o (ap inside at_line ∙ blank_is) h)

  abbrev all_marks : List Mark
  all_marks = opening_marks t 6 (codes "file") path ++ (mark_at t (kind.Sign s.ParenClose) j 1 ∷ mark_at t (kind.Sign s.Semicolon) (j + 1) 1 ∷ [])

  all_lead : Leads t (code false 0 0 0 6) all_marks (code false 0 0 0 (j + 1 + 1 + 1))
  all_lead =
      then t _ _ _ _ _ (opening t 0 0 0 6 (codes "file") path (41 ∷ 59 ∷ 10 ∷ []) at_word refl p)
      (then t _ _ _ _ _ (token_leads t 0 0 0 j 1 (simple.Sign s.ParenClose) (ap inside at_shut ∙ shut_front (59 ∷ 10 ∷ [])))
      (then t _ _ _ _ _ (token_leads t 0 0 0 (j + 1) 1 (simple.Sign s.Semicolon) (ap inside at_semi ∙ semi_front (10 ∷ []))) line_leads))

  of_left : (us : List Mark) (end : ℕ) (o : Outcome) → Reads t (code false 0 0 0 (j + 1 + 1 + 1)) o → read us end ≡ after all_marks o → StubMarks (file_kinds path) us
  of_left us end (read vs e) h same =
      let last = end_of (front_of t 0 0 0 (j + 1 + 1 + 1) front.End (read vs e) (ap inside at_end ∙ end_is) h) in
      let is : us ≡ all_marks ++ vs = cc in
      subst (StubMarks (file_kinds path)) (sym (is ∙ ap (λ l. all_marks ++ l) last.is))
      ((refl, word_text t 0 0 0 6 (codes "file") path (41 ∷ 59 ∷ 10 ∷ []) at_word), (refl, (refl, (refl, (refl, (refl, (refl, (refl, tt {0}))))))))
  of_left us end (fault x k) h same = absurd cc

  pub whole_read : (ms : List Mark) → IsTokens t ms → StubMarks (file_kinds path) ms
  whole_read ms is =
      let h : Reads t (code false 0 0 0 6) (read ms is.0) = outer_of (outer_is (file_rest path)) is.1 in
      let l = all_lead (read ms is.0) h in of_left ms is.0 l.left l.reads l.same
