-- There is a numbering.
use Rattle.std.proofs.Common.{◌≡◌, ℕ, zero, suc, ◌<◌, ◌||◌, true, false, ◌==◌, nat_lt, List, [], ◌∷◌, Some, codes, refl, sym, ap, ◌∙◌, arith}
use Rattle.std.specs.Str.{bytes_eq}
use Rattle.std.proofs.lemmas.Bool.Decides.{Decides-eqb, Decides-ltb}
use Rattle.php_world.specs.Variables.{is_superglobal}
use Rattle.php_world.specs.Naming.{AreDistinct, Naming}
use Rattle.php_state.specs.Linked.{AreApart}
use Rattle.php_link.specs.Names.{Knows, Grows, first_names}
use Rattle.php_link.specs.Numberings.{HasNumbering}
use Rattle.php_link.proofs.Texts.{not_true, lone}
use Rattle.php_link.proofs.Naming.{total, above, total_differs, total_knows}

no_superglobal : (x : List ℕ) → bytes_eq x (codes "_GET") ≡ false → bytes_eq x (codes "_POST") ≡ false → bytes_eq x (codes "_COOKIE") ≡ false → bytes_eq x (codes "_REQUEST") ≡ false
    → bytes_eq x (codes "_SERVER") ≡ false → bytes_eq x (codes "_SESSION") ≡ false → is_superglobal x ≡ false
no_superglobal x a b c d e f = rw a (rw b (rw c (rw d (rw e (rw f refl)))))

apart_from : (name : ℕ → List ℕ) → AreDistinct name → (n k : ℕ) (text : List ℕ) → name k ≡ text → k < n → bytes_eq (name n) text ≡ false
apart_from name differ n k text is less =
    ap (bytes_eq (name n)) (sym is) ∙ (differ n k ∙ not_true (n == k) (λ (e : (n == k) ≡ true). let same : n ≡ k = (Decides-eqb n k).0 e in omega (arith, same, less)))

first_six : (name : ℕ → List ℕ) → AreDistinct name → Knows name first_names → (n : ℕ) → is_superglobal (name n) ≡ nat_lt n 6
first_six name differ known zero = ap is_superglobal (known 0 (codes "_GET") refl)
first_six name differ known (suc zero) = ap is_superglobal (known 1 (codes "_POST") refl)
first_six name differ known (suc (suc zero)) = ap is_superglobal (known 2 (codes "_COOKIE") refl)
first_six name differ known (suc (suc (suc zero))) = ap is_superglobal (known 3 (codes "_REQUEST") refl)
first_six name differ known (suc (suc (suc (suc zero)))) = ap is_superglobal (known 4 (codes "_SERVER") refl)
first_six name differ known (suc (suc (suc (suc (suc zero))))) = ap is_superglobal (known 5 (codes "_SESSION") refl)
first_six name differ known (suc (suc (suc (suc (suc (suc m)))))) =
    let n = suc (suc (suc (suc (suc (suc m))))) in
    let past : nat_lt n 6 ≡ false = not_true (nat_lt n 6) (λ (e : nat_lt n 6 ≡ true). let h : n < 6 = (Decides-ltb n 6).0 e in omega (arith, h)) in
    no_superglobal (name n)
    (apart_from name differ n 0 (codes "_GET") (known 0 (codes "_GET") refl) (omega arith))
    (apart_from name differ n 1 (codes "_POST") (known 1 (codes "_POST") refl) (omega arith))
    (apart_from name differ n 2 (codes "_COOKIE") (known 2 (codes "_COOKIE") refl) (omega arith))
    (apart_from name differ n 3 (codes "_REQUEST") (known 3 (codes "_REQUEST") refl) (omega arith))
    (apart_from name differ n 4 (codes "_SERVER") (known 4 (codes "_SERVER") refl) (omega arith))
    (apart_from name differ n 5 (codes "_SESSION") (known 5 (codes "_SESSION") refl) (omega arith))
    ∙ sym past

pub numbering : (names statics : List (List ℕ)) → AreApart names → Grows first_names names → AreApart statics → HasNumbering names statics
numbering names statics differ begin statics_differ =
    let name = total (above names) names in
    let static = total (above statics) statics in
    let apart = total_differs names (lone names differ) in
    let known = total_knows (above names) names in
    record {
      naming = record {
        name = name;
        static = static;
        names_differ = apart;
        statics_differ = total_differs statics (lone statics statics_differ);
        superglobals = first_six name apart (λ n text e. known n text (begin n text e));
      };
      names_are = known;
      statics_are = total_knows (above statics) statics;
    }
