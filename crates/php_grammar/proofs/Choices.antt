-- Where no row of a part fits.
use Rattle.std.proofs.Common.{◌≡◌, ℕ, Bool, true, false, ◌==◌, List, [], ◌∷◌, Option, Some, None, if◌then◌else◌, ◌⊎◌, inl, inr, refl, ap, sym, ◌∙◌}
use Rattle.std.proofs.lemmas.Bool.{eqb-true, ne_eqb}
use Rattle.php_grammar.specs.declared.token.Kind.{Kind}
use Rattle.php_grammar.specs.declared.token.Kind.TheVariants as k
use Rattle.php_grammar.specs.Kinds.{code, holds, words}
use Rattle.php_grammar.specs.Parts.{Part, Seen, Rule, none_of, mods, tail, after_colons, any_word, c_member, member_part, place_member_part, c_class_form, c_named, class_form, named_word, other_member, place_member, place_named, static_member, static_property, static_property_this, word_seen, var_seen, this_seen, place_seen, other_seen, place_member_seen, other_member_seen, static_member_seen, exit_seen, new_seen}
use Rattle.php_grammar.specs.Grammar.{Row, each, rows, pick, choose}
use Rattle.php_grammar.proofs.Codes.{same_kind}
use Rattle.php_grammar.proofs.Facts.{either}

pub differs : (i j : Kind) → (j ≡ i → ⊥) → (code i == code j) ≡ false
differs i j h = ne_eqb _ _ (λ e. h (sym (same_kind i j e)))

-- the next rows decide
later : (i j : Kind) (r : Rule) (last : Option Rule) (more : List Row) → (j ≡ i → ⊥) → pick (code j) last ((i, r) ∷ more) ≡ pick (code j) last more
later i j r last more h = rw (differs i j h) refl

-- a row for each kind of a list
listed : (f : Kind → Rule) (ks : List Kind) (j : Kind) (last : Option Rule) → pick (code j) last (each f ks) ≡ (if holds (code j) ks then Some (f j) else last)
listed f [] j last = refl
listed f (i ∷ ks) j last = elim (either (code i == code j)) [
  | inl y ↦ rw y (ap (λ x. Some (f x)) (same_kind i j (eqb-true _ _ y)))
  | inr n ↦ rw n (listed f ks j last)
]

pub any_word_rows : (j : Kind) → choose any_word j ≡ (if holds (code j) words then Some (named_word j) else None)
unfolding choose
any_word_rows j = listed (λ x. named_word x) words j None

pub place_member_rows : (j : Kind) → choose place_member_part j ≡ (if holds (code j) words then Some (place_named j) else None)
unfolding choose
place_member_rows j = listed (λ x. place_named x) words j None

pub member_of_place : (c : Bool) (j : Kind) → choose (member_part true c) j ≡ (if holds (code j) words then Some (place_member j c) else None)
unfolding choose
member_of_place true j = listed (λ x. place_member x true) words j None
member_of_place false j = listed (λ x. place_member x false) words j None

pub member_of_other : (c : Bool) (j : Kind) → choose (member_part false c) j ≡ (if holds (code j) words then Some (other_member j c) else None)
unfolding choose
member_of_other true j = listed (λ x. other_member x true) words j None
member_of_other false j = listed (λ x. other_member x false) words j None

pub c_member_rows : (j : Kind) → (j ≡ k.Class → ⊥) → choose c_member j ≡ (if holds (code j) words then Some (c_named j) else None)
unfolding choose
c_member_rows j h = later k.Class j c_class_form None (each (λ x. c_named x) words) h ∙ (listed (λ x. c_named x) words j None)

pub c_member_class : (j : Kind) → j ≡ k.Class → choose c_member j ≡ Some c_class_form
unfolding choose
c_member_class j e = rw e refl

pub after_colons_class : (c : Bool) (j : Kind) → j ≡ k.Class → choose (after_colons c) j ≡ Some (class_form c)
unfolding choose
after_colons_class true j e = rw e refl
after_colons_class false j e = rw e refl

pub after_colons_var : (c : Bool) (j : Kind) → j ≡ k.Var → choose (after_colons c) j ≡ Some (static_property c)
unfolding choose
after_colons_var true j e = rw e refl
after_colons_var false j e = rw e refl

pub after_colons_this : (c : Bool) (j : Kind) → j ≡ k.This → choose (after_colons c) j ≡ Some (static_property_this c)
unfolding choose
after_colons_this true j e = rw e refl
after_colons_this false j e = rw e refl

pub after_colons_rows : (c : Bool) (j : Kind) → (j ≡ k.Class → ⊥) → (j ≡ k.Var → ⊥) → (j ≡ k.This → ⊥)
    → choose (after_colons c) j ≡ (if holds (code j) words then Some (static_member j c) else None)
unfolding choose
after_colons_rows true j h i l =
    later k.Class j (class_form true) None ((k.Var, static_property true) ∷ (k.This, static_property_this true) ∷ each (λ x. static_member x true) words) h
    ∙ later k.Var j (static_property true) None ((k.This, static_property_this true) ∷ each (λ x. static_member x true) words) i
    ∙ later k.This j (static_property_this true) None (each (λ x. static_member x true) words) l
    ∙ listed (λ x. static_member x true) words j None
after_colons_rows false j h i l =
    later k.Class j (class_form false) None ((k.Var, static_property false) ∷ (k.This, static_property_this false) ∷ each (λ x. static_member x false) words) h
    ∙ later k.Var j (static_property false) None ((k.This, static_property_this false) ∷ each (λ x. static_member x false) words) i
    ∙ later k.This j (static_property_this false) None (each (λ x. static_member x false) words) l
    ∙ listed (λ x. static_member x false) words j None

-- the kinds that are no words
pub no_word : (j : Kind) → (j ≡ k.Equality) ⊎ ((j ≡ k.Order) ⊎ ((j ≡ k.AndAnd) ⊎ ((j ≡ k.OrOr) ⊎ ((j ≡ k.Coalesce) ⊎ ((j ≡ k.Step) ⊎ ((j ≡ k.AssignOp) ⊎ ((j ≡ k.Assign) ⊎ ((j ≡ k.DoubleArrow) ⊎ ((j ≡ k.Arrow) ⊎ ((j ≡ k.DoubleColon) ⊎ ((j ≡ k.Not) ⊎ ((j ≡ k.Sign) ⊎ ((j ≡ k.Dot) ⊎ ((j ≡ k.Product) ⊎ ((j ≡ k.Question) ⊎ ((j ≡ k.Colon) ⊎ ((j ≡ k.Semi) ⊎ ((j ≡ k.Comma) ⊎ ((j ≡ k.ParenOpen) ⊎ ((j ≡ k.ParenClose) ⊎ ((j ≡ k.BracketOpen) ⊎ ((j ≡ k.BracketClose) ⊎ ((j ≡ k.BraceOpen) ⊎ ((j ≡ k.BraceClose) ⊎ ((j ≡ k.Amp) ⊎ ((j ≡ k.Pipe) ⊎ ((j ≡ k.Prefix) ⊎ ((j ≡ k.Inline) ⊎ ((j ≡ k.EchoTag) ⊎ ((j ≡ k.Var) ⊎ ((j ≡ k.This) ⊎ ((j ≡ k.Int) ⊎ ((j ≡ k.Text) ⊎ ((j ≡ k.Quote) ⊎ ((j ≡ k.QuoteOpen) ⊎ ((j ≡ k.QuoteNext) ⊎ ((j ≡ k.QuoteClose) ⊎ ((j ≡ k.End))))))))))))))))))))))))))))))))))))))) → false ≡ holds (code j) words
no_word j (inl e) = rw e refl
no_word j (inr (inl e)) = rw e refl
no_word j (inr (inr (inl e))) = rw e refl
no_word j (inr (inr (inr (inl e)))) = rw e refl
no_word j (inr (inr (inr (inr (inl e))))) = rw e refl
no_word j (inr (inr (inr (inr (inr (inl e)))))) = rw e refl
no_word j (inr (inr (inr (inr (inr (inr (inl e))))))) = rw e refl
no_word j (inr (inr (inr (inr (inr (inr (inr (inl e)))))))) = rw e refl
no_word j (inr (inr (inr (inr (inr (inr (inr (inr (inl e))))))))) = rw e refl
no_word j (inr (inr (inr (inr (inr (inr (inr (inr (inr (inl e)))))))))) = rw e refl
no_word j (inr (inr (inr (inr (inr (inr (inr (inr (inr (inr (inl e))))))))))) = rw e refl
no_word j (inr (inr (inr (inr (inr (inr (inr (inr (inr (inr (inr (inl e)))))))))))) = rw e refl
no_word j (inr (inr (inr (inr (inr (inr (inr (inr (inr (inr (inr (inr (inl e))))))))))))) = rw e refl
no_word j (inr (inr (inr (inr (inr (inr (inr (inr (inr (inr (inr (inr (inr (inl e)))))))))))))) = rw e refl
no_word j (inr (inr (inr (inr (inr (inr (inr (inr (inr (inr (inr (inr (inr (inr (inl e))))))))))))))) = rw e refl
no_word j (inr (inr (inr (inr (inr (inr (inr (inr (inr (inr (inr (inr (inr (inr (inr (inl e)))))))))))))))) = rw e refl
no_word j (inr (inr (inr (inr (inr (inr (inr (inr (inr (inr (inr (inr (inr (inr (inr (inr (inl e))))))))))))))))) = rw e refl
no_word j (inr (inr (inr (inr (inr (inr (inr (inr (inr (inr (inr (inr (inr (inr (inr (inr (inr (inl e)))))))))))))))))) = rw e refl
no_word j (inr (inr (inr (inr (inr (inr (inr (inr (inr (inr (inr (inr (inr (inr (inr (inr (inr (inr (inl e))))))))))))))))))) = rw e refl
no_word j (inr (inr (inr (inr (inr (inr (inr (inr (inr (inr (inr (inr (inr (inr (inr (inr (inr (inr (inr (inl e)))))))))))))))))))) = rw e refl
no_word j (inr (inr (inr (inr (inr (inr (inr (inr (inr (inr (inr (inr (inr (inr (inr (inr (inr (inr (inr (inr (inl e))))))))))))))))))))) = rw e refl
no_word j (inr (inr (inr (inr (inr (inr (inr (inr (inr (inr (inr (inr (inr (inr (inr (inr (inr (inr (inr (inr (inr (inl e)))))))))))))))))))))) = rw e refl
no_word j (inr (inr (inr (inr (inr (inr (inr (inr (inr (inr (inr (inr (inr (inr (inr (inr (inr (inr (inr (inr (inr (inr (inl e))))))))))))))))))))))) = rw e refl
no_word j (inr (inr (inr (inr (inr (inr (inr (inr (inr (inr (inr (inr (inr (inr (inr (inr (inr (inr (inr (inr (inr (inr (inr (inl e)))))))))))))))))))))))) = rw e refl
no_word j (inr (inr (inr (inr (inr (inr (inr (inr (inr (inr (inr (inr (inr (inr (inr (inr (inr (inr (inr (inr (inr (inr (inr (inr (inl e))))))))))))))))))))))))) = rw e refl
no_word j (inr (inr (inr (inr (inr (inr (inr (inr (inr (inr (inr (inr (inr (inr (inr (inr (inr (inr (inr (inr (inr (inr (inr (inr (inr (inl e)))))))))))))))))))))))))) = rw e refl
no_word j (inr (inr (inr (inr (inr (inr (inr (inr (inr (inr (inr (inr (inr (inr (inr (inr (inr (inr (inr (inr (inr (inr (inr (inr (inr (inr (inl e))))))))))))))))))))))))))) = rw e refl
no_word j (inr (inr (inr (inr (inr (inr (inr (inr (inr (inr (inr (inr (inr (inr (inr (inr (inr (inr (inr (inr (inr (inr (inr (inr (inr (inr (inr (inl e)))))))))))))))))))))))))))) = rw e refl
no_word j (inr (inr (inr (inr (inr (inr (inr (inr (inr (inr (inr (inr (inr (inr (inr (inr (inr (inr (inr (inr (inr (inr (inr (inr (inr (inr (inr (inr (inl e))))))))))))))))))))))))))))) = rw e refl
no_word j (inr (inr (inr (inr (inr (inr (inr (inr (inr (inr (inr (inr (inr (inr (inr (inr (inr (inr (inr (inr (inr (inr (inr (inr (inr (inr (inr (inr (inr (inl e)))))))))))))))))))))))))))))) = rw e refl
no_word j (inr (inr (inr (inr (inr (inr (inr (inr (inr (inr (inr (inr (inr (inr (inr (inr (inr (inr (inr (inr (inr (inr (inr (inr (inr (inr (inr (inr (inr (inr (inl e))))))))))))))))))))))))))))))) = rw e refl
no_word j (inr (inr (inr (inr (inr (inr (inr (inr (inr (inr (inr (inr (inr (inr (inr (inr (inr (inr (inr (inr (inr (inr (inr (inr (inr (inr (inr (inr (inr (inr (inr (inl e)))))))))))))))))))))))))))))))) = rw e refl
no_word j (inr (inr (inr (inr (inr (inr (inr (inr (inr (inr (inr (inr (inr (inr (inr (inr (inr (inr (inr (inr (inr (inr (inr (inr (inr (inr (inr (inr (inr (inr (inr (inr (inl e))))))))))))))))))))))))))))))))) = rw e refl
no_word j (inr (inr (inr (inr (inr (inr (inr (inr (inr (inr (inr (inr (inr (inr (inr (inr (inr (inr (inr (inr (inr (inr (inr (inr (inr (inr (inr (inr (inr (inr (inr (inr (inr (inl e)))))))))))))))))))))))))))))))))) = rw e refl
no_word j (inr (inr (inr (inr (inr (inr (inr (inr (inr (inr (inr (inr (inr (inr (inr (inr (inr (inr (inr (inr (inr (inr (inr (inr (inr (inr (inr (inr (inr (inr (inr (inr (inr (inr (inl e))))))))))))))))))))))))))))))))))) = rw e refl
no_word j (inr (inr (inr (inr (inr (inr (inr (inr (inr (inr (inr (inr (inr (inr (inr (inr (inr (inr (inr (inr (inr (inr (inr (inr (inr (inr (inr (inr (inr (inr (inr (inr (inr (inr (inr (inl e)))))))))))))))))))))))))))))))))))) = rw e refl
no_word j (inr (inr (inr (inr (inr (inr (inr (inr (inr (inr (inr (inr (inr (inr (inr (inr (inr (inr (inr (inr (inr (inr (inr (inr (inr (inr (inr (inr (inr (inr (inr (inr (inr (inr (inr (inr (inl e))))))))))))))))))))))))))))))))))))) = rw e refl
no_word j (inr (inr (inr (inr (inr (inr (inr (inr (inr (inr (inr (inr (inr (inr (inr (inr (inr (inr (inr (inr (inr (inr (inr (inr (inr (inr (inr (inr (inr (inr (inr (inr (inr (inr (inr (inr (inr (inl e)))))))))))))))))))))))))))))))))))))) = rw e refl
no_word j (inr (inr (inr (inr (inr (inr (inr (inr (inr (inr (inr (inr (inr (inr (inr (inr (inr (inr (inr (inr (inr (inr (inr (inr (inr (inr (inr (inr (inr (inr (inr (inr (inr (inr (inr (inr (inr (inr e)))))))))))))))))))))))))))))))))))))) = rw e refl

mods_none_at : (v st ab fi va inner : Bool) (n : ℕ) → (code k.Function == n) ≡ false → (code k.Visibility == n) ≡ false → (code k.Static == n) ≡ false → (code k.Abstract == n) ≡ false → (code k.Final == n) ≡ false → (code k.VarWord == n) ≡ false → (code k.Var == n) ≡ false → (code k.This == n) ≡ false → pick n None (rows (mods v st ab fi va inner)) ≡ None
mods_none_at true true true true true true n h0 _ _ _ _ _ _ _ = rw (h0) refl
mods_none_at true true true true true false n h0 _ _ _ _ _ h6 h7 = rw (h0, h6, h7) refl
mods_none_at true true true true false true n h0 _ _ _ _ h5 _ _ = rw (h0, h5) refl
mods_none_at true true true true false false n h0 _ _ _ _ h5 h6 h7 = rw (h0, h5, h6, h7) refl
mods_none_at true true true false true true n h0 _ _ _ h4 _ _ _ = rw (h0, h4) refl
mods_none_at true true true false true false n h0 _ _ _ h4 _ h6 h7 = rw (h0, h4, h6, h7) refl
mods_none_at true true true false false true n h0 _ _ _ h4 h5 _ _ = rw (h0, h4, h5) refl
mods_none_at true true true false false false n h0 _ _ _ h4 h5 h6 h7 = rw (h0, h4, h5, h6, h7) refl
mods_none_at true true false true true true n h0 _ _ h3 _ _ _ _ = rw (h0, h3) refl
mods_none_at true true false true true false n h0 _ _ h3 _ _ h6 h7 = rw (h0, h3, h6, h7) refl
mods_none_at true true false true false true n h0 _ _ h3 _ h5 _ _ = rw (h0, h3, h5) refl
mods_none_at true true false true false false n h0 _ _ h3 _ h5 h6 h7 = rw (h0, h3, h5, h6, h7) refl
mods_none_at true true false false true true n h0 _ _ h3 h4 _ _ _ = rw (h0, h3, h4) refl
mods_none_at true true false false true false n h0 _ _ h3 h4 _ h6 h7 = rw (h0, h3, h4, h6, h7) refl
mods_none_at true true false false false true n h0 _ _ h3 h4 h5 _ _ = rw (h0, h3, h4, h5) refl
mods_none_at true true false false false false n h0 _ _ h3 h4 h5 h6 h7 = rw (h0, h3, h4, h5, h6, h7) refl
mods_none_at true false true true true true n h0 _ h2 _ _ _ _ _ = rw (h0, h2) refl
mods_none_at true false true true true false n h0 _ h2 _ _ _ h6 h7 = rw (h0, h2, h6, h7) refl
mods_none_at true false true true false true n h0 _ h2 _ _ h5 _ _ = rw (h0, h2, h5) refl
mods_none_at true false true true false false n h0 _ h2 _ _ h5 h6 h7 = rw (h0, h2, h5, h6, h7) refl
mods_none_at true false true false true true n h0 _ h2 _ h4 _ _ _ = rw (h0, h2, h4) refl
mods_none_at true false true false true false n h0 _ h2 _ h4 _ h6 h7 = rw (h0, h2, h4, h6, h7) refl
mods_none_at true false true false false true n h0 _ h2 _ h4 h5 _ _ = rw (h0, h2, h4, h5) refl
mods_none_at true false true false false false n h0 _ h2 _ h4 h5 h6 h7 = rw (h0, h2, h4, h5, h6, h7) refl
mods_none_at true false false true true true n h0 _ h2 h3 _ _ _ _ = rw (h0, h2, h3) refl
mods_none_at true false false true true false n h0 _ h2 h3 _ _ h6 h7 = rw (h0, h2, h3, h6, h7) refl
mods_none_at true false false true false true n h0 _ h2 h3 _ h5 _ _ = rw (h0, h2, h3, h5) refl
mods_none_at true false false true false false n h0 _ h2 h3 _ h5 h6 h7 = rw (h0, h2, h3, h5, h6, h7) refl
mods_none_at true false false false true true n h0 _ h2 h3 h4 _ _ _ = rw (h0, h2, h3, h4) refl
mods_none_at true false false false true false n h0 _ h2 h3 h4 _ h6 h7 = rw (h0, h2, h3, h4, h6, h7) refl
mods_none_at true false false false false true n h0 _ h2 h3 h4 h5 _ _ = rw (h0, h2, h3, h4, h5) refl
mods_none_at true false false false false false n h0 _ h2 h3 h4 h5 h6 h7 = rw (h0, h2, h3, h4, h5, h6, h7) refl
mods_none_at false true true true true true n h0 h1 _ _ _ _ _ _ = rw (h0, h1) refl
mods_none_at false true true true true false n h0 h1 _ _ _ _ h6 h7 = rw (h0, h1, h6, h7) refl
mods_none_at false true true true false true n h0 h1 _ _ _ h5 _ _ = rw (h0, h1, h5) refl
mods_none_at false true true true false false n h0 h1 _ _ _ h5 h6 h7 = rw (h0, h1, h5, h6, h7) refl
mods_none_at false true true false true true n h0 h1 _ _ h4 _ _ _ = rw (h0, h1, h4) refl
mods_none_at false true true false true false n h0 h1 _ _ h4 _ h6 h7 = rw (h0, h1, h4, h6, h7) refl
mods_none_at false true true false false true n h0 h1 _ _ h4 h5 _ _ = rw (h0, h1, h4, h5) refl
mods_none_at false true true false false false n h0 h1 _ _ h4 h5 h6 h7 = rw (h0, h1, h4, h5, h6, h7) refl
mods_none_at false true false true true true n h0 h1 _ h3 _ _ _ _ = rw (h0, h1, h3) refl
mods_none_at false true false true true false n h0 h1 _ h3 _ _ h6 h7 = rw (h0, h1, h3, h6, h7) refl
mods_none_at false true false true false true n h0 h1 _ h3 _ h5 _ _ = rw (h0, h1, h3, h5) refl
mods_none_at false true false true false false n h0 h1 _ h3 _ h5 h6 h7 = rw (h0, h1, h3, h5, h6, h7) refl
mods_none_at false true false false true true n h0 h1 _ h3 h4 _ _ _ = rw (h0, h1, h3, h4) refl
mods_none_at false true false false true false n h0 h1 _ h3 h4 _ h6 h7 = rw (h0, h1, h3, h4, h6, h7) refl
mods_none_at false true false false false true n h0 h1 _ h3 h4 h5 _ _ = rw (h0, h1, h3, h4, h5) refl
mods_none_at false true false false false false n h0 h1 _ h3 h4 h5 h6 h7 = rw (h0, h1, h3, h4, h5, h6, h7) refl
mods_none_at false false true true true true n h0 h1 h2 _ _ _ _ _ = rw (h0, h1, h2) refl
mods_none_at false false true true true false n h0 h1 h2 _ _ _ h6 h7 = rw (h0, h1, h2, h6, h7) refl
mods_none_at false false true true false true n h0 h1 h2 _ _ h5 _ _ = rw (h0, h1, h2, h5) refl
mods_none_at false false true true false false n h0 h1 h2 _ _ h5 h6 h7 = rw (h0, h1, h2, h5, h6, h7) refl
mods_none_at false false true false true true n h0 h1 h2 _ h4 _ _ _ = rw (h0, h1, h2, h4) refl
mods_none_at false false true false true false n h0 h1 h2 _ h4 _ h6 h7 = rw (h0, h1, h2, h4, h6, h7) refl
mods_none_at false false true false false true n h0 h1 h2 _ h4 h5 _ _ = rw (h0, h1, h2, h4, h5) refl
mods_none_at false false true false false false n h0 h1 h2 _ h4 h5 h6 h7 = rw (h0, h1, h2, h4, h5, h6, h7) refl
mods_none_at false false false true true true n h0 h1 h2 h3 _ _ _ _ = rw (h0, h1, h2, h3) refl
mods_none_at false false false true true false n h0 h1 h2 h3 _ _ h6 h7 = rw (h0, h1, h2, h3, h6, h7) refl
mods_none_at false false false true false true n h0 h1 h2 h3 _ h5 _ _ = rw (h0, h1, h2, h3, h5) refl
mods_none_at false false false true false false n h0 h1 h2 h3 _ h5 h6 h7 = rw (h0, h1, h2, h3, h5, h6, h7) refl
mods_none_at false false false false true true n h0 h1 h2 h3 h4 _ _ _ = rw (h0, h1, h2, h3, h4) refl
mods_none_at false false false false true false n h0 h1 h2 h3 h4 _ h6 h7 = rw (h0, h1, h2, h3, h4, h6, h7) refl
mods_none_at false false false false false true n h0 h1 h2 h3 h4 h5 _ _ = rw (h0, h1, h2, h3, h4, h5) refl
mods_none_at false false false false false false n h0 h1 h2 h3 h4 h5 h6 h7 = rw (h0, h1, h2, h3, h4, h5, h6, h7) refl

pub mods_none : (v st ab fi va inner : Bool) (j : Kind) → (j ≡ k.Function → ⊥) → (j ≡ k.Visibility → ⊥) → (j ≡ k.Static → ⊥) → (j ≡ k.Abstract → ⊥) → (j ≡ k.Final → ⊥) → (j ≡ k.VarWord → ⊥) → (j ≡ k.Var → ⊥) → (j ≡ k.This → ⊥) → choose (mods v st ab fi va inner) j ≡ None
unfolding choose
mods_none v st ab fi va inner j h0 h1 h2 h3 h4 h5 h6 h7 = mods_none_at v st ab fi va inner (code j) (differs k.Function j h0) (differs k.Visibility j h1) (differs k.Static j h2) (differs k.Abstract j h3) (differs k.Final j h4) (differs k.VarWord j h5) (differs k.Var j h6) (differs k.This j h7)

tail_none_at : (seen : Seen) (c : Bool) (n : ℕ) → (code k.BracketOpen == n) ≡ false → (code k.Arrow == n) ≡ false → (code k.ParenOpen == n) ≡ false → (code k.DoubleColon == n) ≡ false → (code k.Assign == n) ≡ false → (code k.AssignOp == n) ≡ false → (code k.Step == n) ≡ false → pick n (Some (none_of (tail seen c))) (rows (tail seen c)) ≡ (Some (none_of (tail seen c)))
tail_none_at word_seen true n h0 h1 h2 h3 _ _ _ = rw (h0, h1, h2, h3) refl
tail_none_at word_seen false n h0 h1 h2 h3 _ _ _ = rw (h0, h1, h2, h3) refl
tail_none_at var_seen true n h0 h1 h2 _ h4 h5 h6 = rw (h0, h1, h2, h4, h5, h6) refl
tail_none_at var_seen false n h0 h1 h2 _ h4 h5 _ = rw (h0, h1, h2, h4, h5) refl
tail_none_at this_seen true n h0 h1 h2 _ _ _ _ = rw (h0, h1, h2) refl
tail_none_at this_seen false n h0 h1 h2 _ _ _ _ = rw (h0, h1, h2) refl
tail_none_at place_seen true n h0 h1 _ _ h4 h5 h6 = rw (h0, h1, h4, h5, h6) refl
tail_none_at place_seen false n h0 h1 _ _ h4 h5 _ = rw (h0, h1, h4, h5) refl
tail_none_at other_seen true n h0 h1 _ _ _ _ _ = rw (h0, h1) refl
tail_none_at other_seen false n h0 h1 _ _ _ _ _ = rw (h0, h1) refl
tail_none_at place_member_seen true n h0 h1 h2 _ h4 h5 h6 = rw (h0, h1, h2, h4, h5, h6) refl
tail_none_at place_member_seen false n h0 h1 h2 _ h4 h5 _ = rw (h0, h1, h2, h4, h5) refl
tail_none_at other_member_seen true n h0 h1 h2 _ _ _ _ = rw (h0, h1, h2) refl
tail_none_at other_member_seen false n h0 h1 h2 _ _ _ _ = rw (h0, h1, h2) refl
tail_none_at static_member_seen true n h0 h1 h2 _ _ _ _ = rw (h0, h1, h2) refl
tail_none_at static_member_seen false n h0 h1 h2 _ _ _ _ = rw (h0, h1, h2) refl
tail_none_at exit_seen true n h0 h1 h2 _ _ _ _ = rw (h0, h1, h2) refl
tail_none_at exit_seen false n h0 h1 h2 _ _ _ _ = rw (h0, h1, h2) refl
tail_none_at new_seen true n h0 h1 h2 _ _ _ _ = rw (h0, h1, h2) refl
tail_none_at new_seen false n h0 h1 h2 _ _ _ _ = rw (h0, h1, h2) refl

pub tail_none : (seen : Seen) (c : Bool) (j : Kind) → (j ≡ k.BracketOpen → ⊥) → (j ≡ k.Arrow → ⊥) → (j ≡ k.ParenOpen → ⊥) → (j ≡ k.DoubleColon → ⊥) → (j ≡ k.Assign → ⊥) → (j ≡ k.AssignOp → ⊥) → (j ≡ k.Step → ⊥) → choose (tail seen c) j ≡ Some (none_of (tail seen c))
unfolding choose
tail_none seen c j h0 h1 h2 h3 h4 h5 h6 = tail_none_at seen c (code j) (differs k.BracketOpen j h0) (differs k.Arrow j h1) (differs k.ParenOpen j h2) (differs k.DoubleColon j h3) (differs k.Assign j h4) (differs k.AssignOp j h5) (differs k.Step j h6)
