-- What is left of a list goes on under a frame, over plain values.
use Rattle.std.proofs.Common.{rules, ◌≡◌, ℕ, suc, ◌-◌, ◌≤◌, List, [], ◌∷◌, length, take, drop, slice_index_or, refl, sym, ap, ◌∙◌, Bor, Bool, true, false, if◌then◌else◌, Option, None, option_map, arith, Ok, Err}
use Rattle.php_tree.specs.declared.expr.ChainOp.{ChainOp}
use Rattle.php_tree.specs.declared.expr.QuoteKey.{QuoteKey}
use Rattle.php_tree.specs.declared.expr.QuotePart.{QuotePart}
use Rattle.php_tree.specs.declared.expr.QuotePart.TheVariants as q
use Rattle.php_tree.specs.declared.expr.Item.{Item}
use Rattle.php_tree.specs.declared.expr.Item.TheVariants as it
use Rattle.php_tree.specs.declared.expr.Branch.{Branch}
use Rattle.php_tree.specs.declared.expr.Branch.TheVariants as b
use Rattle.php_tree.specs.declared.expr.Access.{Access}
use Rattle.php_tree.specs.declared.expr.Access.TheVariants as a
use Rattle.php_tree.specs.declared.expr.Expr.{Expr}
use Rattle.php_tree.specs.declared.name.MemberName.{MemberName}
use Rattle.php_values.specs.declared.value.Value.{Value}
use Rattle.php_values.specs.declared.value.Value.TheVariants as kind
use Rattle.php_values.specs.Data.{Data, truth, data_of}
use Rattle.php_values.specs.Convert.{truth_of}
use Rattle.php_world.specs.declared.fault.PlaceFault.{PlaceFault}
use Rattle.php_world.specs.declared.fault.PlaceFault.TheVariants as place
use Rattle.php_world.specs.Answers.{Answer}
use Rattle.php_world.specs.Naming.{Naming}
use Rattle.php_world.specs.Steps.{Step, at, member}
use Rattle.php_world.specs.Variables.{read_place}
use Rattle.php_world.specs.declared.reading.Reading.{Reading}
use Rattle.php_world.specs.declared.reading.Reading.TheVariants.{Plain, Quiet}
use Rattle.php_world.proofs.Items.{data-Null}
use Rattle.php_meaning.specs.World.{World, Name}
use Rattle.php_meaning.specs.Course.{Course, Then, Does, Gives, give, on_value}
use Rattle.php_meaning.specs.Refusals.{answered, place_refused}
use Rattle.php_meaning.specs.Operators.{right_of, unless_decided, decided}
use Rattle.php_meaning.specs.Stores.{indexed, place_read}
use Rattle.php_meaning.specs.Expressions.{read, parts, items, accessed, links, branches, all_set, key_data, with_text}
use Rattle.php_rest.specs.declared.expr_frame.ExprFrame.TheVariants as f
use Rattle.php_rest.specs.declared.frame.Frame.{Frame}
use Rattle.php_rest.specs.declared.frame.Frame.TheVariants.{OfExpr}
use Rattle.php_rest.specs.Named.{named, all_named, parts_named, items_named, accesses_named, links_named, branches_named, key_named}
use Rattle.php_rest.specs.Rest.{rest}

take-all : {A : Type 0} (xs : List A) → take (length xs) xs ≡ xs
take-all [] = refl
take-all (x ∷ xs) = ap (λ l. x ∷ l) (take-all xs)

-- a list that is not empty is its first element and the others
pub cut : {A : Type 0} (l : List A) (d : A) → 1 ≤ length l → l ≡ slice_index_or l 0 d ∷ take (length l - 1) (drop 1 l)
cut [] d e = search (rules, e)
cut (x ∷ xs) d e = let n : suc (length xs) - 1 ≡ length xs = omega arith in ap (λ l. x ∷ l) (sym (ap (λ k. take k xs) n ∙ take-all xs))

-- a list by its first element, which is known
pub first_of : {A : Type 0} (l : List A) (x y : A) → 1 ≤ length l → x ≡ slice_index_or l 0 x → x ≡ y → l ≡ y ∷ take (length l - 1) (drop 1 l)
first_of l x y len there is = cut l x len ∙ ap (λ z. z ∷ take (length l - 1) (drop 1 l)) (sym there ∙ is)

-- ---- chains

pub go-link : (p : ChainOp × Expr) (all : List (ChainOp × Expr)) (m : Bor (List (ChainOp × Expr))) (v : Value) (o : Option Bool) (s s' : List Frame)
    → all ≡ p ∷ m.now → decided p.0 (data_of v) ≡ option_map truth o → o ≡ None → s' ≡ OfExpr (f.RightOf p.0 v m) ∷ s
    → (t : Naming) (w : World) (k : Then) → read Plain (named t p.1) w (rest t s' k) ≡ links (links_named t all) (data_of v) w (rest t s k)
go-link (op, e) all m v o s s' is h none push t w k =
    (λ i. read Plain (named t e) w (rest t (push i) k))
    ∙ ap (λ d. unless_decided d (links (links_named t m.now)) (λ u j. read Plain (named t e) u (right_of op (data_of v) (links (links_named t m.now)) j)) w (rest t s k)) (sym (h ∙ ap (option_map truth) none))
    ∙ ap (λ l. links (links_named t l) (data_of v) w (rest t s k)) (sym is)

-- ---- choices

pub go-yes : (y n : Expr) (all : List (Branch Expr)) (m : Bor (List (Branch Expr))) (v : Value) (h : Bool) (s s' : List Frame)
    → all ≡ b.Full y n ∷ m.now → h ≡ truth_of (data_of v) → h ≡ true → s' ≡ OfExpr (f.Branches m) ∷ s
    → (t : Naming) (w : World) (k : Then) → read Plain (named t y) w (rest t s' k) ≡ branches (branches_named t all) (data_of v) w (rest t s k)
go-yes y n all m v h s s' is holds up push t w k =
    (λ i. read Plain (named t y) w (rest t (push i) k))
    ∙ ap (λ c. if c then read Plain (named t y) w (on_value (branches (branches_named t m.now)) (rest t s k)) else read Plain (named t n) w (on_value (branches (branches_named t m.now)) (rest t s k))) (sym up ∙ holds)
    ∙ ap (λ l. branches (branches_named t l) (data_of v) w (rest t s k)) (sym is)

pub go-no : (y n : Expr) (all : List (Branch Expr)) (m : Bor (List (Branch Expr))) (v : Value) (h : Bool) (s s' : List Frame)
    → all ≡ b.Full y n ∷ m.now → h ≡ truth_of (data_of v) → h ≡ false → s' ≡ OfExpr (f.Branches m) ∷ s
    → (t : Naming) (w : World) (k : Then) → read Plain (named t n) w (rest t s' k) ≡ branches (branches_named t all) (data_of v) w (rest t s k)
go-no y n all m v h s s' is holds down push t w k =
    (λ i. read Plain (named t n) w (rest t (push i) k))
    ∙ ap (λ c. if c then read Plain (named t y) w (on_value (branches (branches_named t m.now)) (rest t s k)) else read Plain (named t n) w (on_value (branches (branches_named t m.now)) (rest t s k))) (sym down ∙ holds)
    ∙ ap (λ l. branches (branches_named t l) (data_of v) w (rest t s k)) (sym is)

pub go-other : (n : Expr) (all : List (Branch Expr)) (m : Bor (List (Branch Expr))) (v : Value) (h : Bool) (s s' : List Frame)
    → all ≡ b.Short n ∷ m.now → h ≡ truth_of (data_of v) → h ≡ false → s' ≡ OfExpr (f.Branches m) ∷ s
    → (t : Naming) (w : World) (k : Then) → read Plain (named t n) w (rest t s' k) ≡ branches (branches_named t all) (data_of v) w (rest t s k)
go-other n all m v h s s' is holds down push t w k =
    (λ i. read Plain (named t n) w (rest t (push i) k))
    ∙ ap (λ c. if c then branches (branches_named t m.now) (data_of v) w (rest t s k) else read Plain (named t n) w (on_value (branches (branches_named t m.now)) (rest t s k))) (sym down ∙ holds)
    ∙ ap (λ l. branches (branches_named t l) (data_of v) w (rest t s k)) (sym is)

pub go-asked : (e : Expr) (all : List Expr) (m : Bor (List Expr)) (s s' : List Frame) → all ≡ e ∷ m.now → s' ≡ OfExpr (f.AllSet m) ∷ s
    → (t : Naming) (w : World) (k : Then) → read Quiet (named t e) w (rest t s' k) ≡ all_set (all_named t all) w (rest t s k)
go-asked e all m s s' is push t w k = (λ i. read Quiet (named t e) w (rest t (push i) k)) ∙ ap (λ l. all_set (all_named t l) w (rest t s k)) (sym is)

-- ---- arrays

pub go-value : (e : Expr) (all : List (Item Expr)) (m : Bor (List (Item Expr))) (v : Value) (s s' : List Frame) → all ≡ it.Value e ∷ m.now → s' ≡ OfExpr (f.ItemOf v m) ∷ s
    → (t : Naming) (w : World) (k : Then) → read Plain (named t e) w (rest t s' k) ≡ items (items_named t all) (data_of v) w (rest t s k)
go-value e all m v s s' is push t w k = (λ i. read Plain (named t e) w (rest t (push i) k)) ∙ ap (λ l. items (items_named t l) (data_of v) w (rest t s k)) (sym is)

pub go-pair : (d e : Expr) (r : Bor Expr) (all : List (Item Expr)) (m : Bor (List (Item Expr))) (v : Value) (s s' : List Frame) → all ≡ it.Pair d e ∷ m.now → r.now ≡ e → s' ≡ OfExpr (f.KeyOf v r m) ∷ s
    → (t : Naming) (w : World) (k : Then) → read Plain (named t d) w (rest t s' k) ≡ items (items_named t all) (data_of v) w (rest t s k)
go-pair d e r all m v s s' is er push t w k =
    (λ i. read Plain (named t d) w (rest t (push i) k)) ∙ ap (λ l. items (items_named t l) (data_of v) w (rest t s k)) (ap (λ x. it.Pair d x ∷ m.now) er ∙ sym is)

-- ---- accesses

pub go-index : (how : Reading) (e : Expr) (all : List (Access Expr)) (m : Bor (List (Access Expr))) (v : Value) (s s' : List Frame) → all ≡ a.Index e ∷ m.now → s' ≡ OfExpr (f.IndexOf how v m) ∷ s
    → (t : Naming) (w : World) (k : Then) → read Plain (named t e) w (rest t s' k) ≡ accessed how (accesses_named t all) (data_of v) w (rest t s k)
go-index how e all m v s s' is push t w k =
    (λ i. read Plain (named t e) w (rest t (push i) k)) ∙ ap (λ l. accessed how (accesses_named t l) (data_of v) w (rest t s k)) (sym is)

pub go-property : (how : Reading) (n : MemberName) (all : List (Access Expr)) (m : Bor (List (Access Expr))) (v : Value) (s s' : List Frame) → all ≡ a.Property n ∷ m.now → s' ≡ OfExpr (f.Accessed how m) ∷ s
    → (t : Naming) (w : World) (k : Then) → rest t s' k (Gives (data_of kind.Null)) w ≡ accessed how (accesses_named t all) (data_of v) w (rest t s k)
go-property how n all m v s s' is push t w k =
    (λ i. rest t (push i) k (Gives (data-Null i)) w) ∙ ap (λ l. accessed how (accesses_named t l) (data_of v) w (rest t s k)) (sym is)

-- ---- texts with parts

pub go-embedded : (e : Expr) (all : List (QuotePart Expr)) (m : Bor (List (QuotePart Expr))) (x : List ℕ) (s s' : List Frame) → all ≡ q.Embedded e ∷ m.now → s' ≡ OfExpr (f.Quoted x m) ∷ s
    → (t : Naming) (w : World) (k : Then) → read Plain (named t e) w (rest t s' k) ≡ parts (parts_named t all) x w (rest t s k)
go-embedded e all m x s s' is push t w k = (λ i. read Plain (named t e) w (rest t (push i) k)) ∙ ap (λ l. parts (parts_named t l) x w (rest t s k)) (sym is)

refused_on : (fault : PlaceFault) (go : Data → Does) (w : World) (k : Then) → place_refused fault w (on_value go k) ≡ place_refused fault w k
refused_on place.Kind go w k = refl
refused_on place.Keys go w k = refl
refused_on place.Size go w k = refl
refused_on place.ObjectAsArray go w k = refl
refused_on place.NotAnObject go w k = refl
refused_on place.Memory go w k = refl

answered_on : (r : Answer Data) (go : Data → Does) (w : World) (k : Then) → answered place_refused give r w (on_value go k) ≡ answered place_refused go r w k
answered_on (Ok d) go w k = refl
answered_on (Err fault) go w k = refused_on fault go w k

-- what is read of a place is given to what follows
pub read_on : (x : Name) (path : List Step) (go : Data → Does) (w : World) (k : Then) → place_read x path give w (on_value go k) ≡ place_read x path go w k
read_on x path go w k = answered_on (read_place x path w.vars) go w k

pub go-key : (n : ℕ) (i : QuoteKey) (d : Data) (all : List (QuotePart Expr)) (m : Bor (List (QuotePart Expr))) (x : List ℕ) (s s' : List Frame) (t : Naming) (w : World) (k : Then) (c : Course)
    → all ≡ q.Index n i ∷ m.now → s' ≡ OfExpr (f.Quoted x m) ∷ s → d ≡ key_data (key_named t i) w → c ≡ place_read (t.name n) (at d ∷ []) give w (rest t s' k)
    → c ≡ parts (parts_named t all) x w (rest t s k)
go-key n i d all m x s s' t w k c is push key law =
    law ∙ (λ j. place_read (t.name n) (at (key j) ∷ []) give w (rest t (push j) k))
    ∙ read_on (t.name n) (at (key_data (key_named t i) w) ∷ []) (with_text x (parts (parts_named t m.now))) w (rest t s k)
    ∙ ap (λ l. parts (parts_named t l) x w (rest t s k)) (sym is)

pub go-member : (n : ℕ) (p : MemberName) (y : List ℕ) (all : List (QuotePart Expr)) (m : Bor (List (QuotePart Expr))) (x : List ℕ) (s s' : List Frame) (t : Naming) (w : World) (k : Then) (c : Course)
    → all ≡ q.Property n p ∷ m.now → s' ≡ OfExpr (f.Quoted x m) ∷ s → y ≡ p.text → c ≡ place_read (t.name n) (member y ∷ []) give w (rest t s' k)
    → c ≡ parts (parts_named t all) x w (rest t s k)
go-member n p y all m x s s' t w k c is push text law =
    law ∙ (λ j. place_read (t.name n) (member (text j) ∷ []) give w (rest t (push j) k))
    ∙ read_on (t.name n) (member p.text ∷ []) (with_text x (parts (parts_named t m.now))) w (rest t s k)
    ∙ ap (λ l. parts (parts_named t l) x w (rest t s k)) (sym is)
