-- What is judged is what the policy says.
use Rattle.std.proofs.Common.{◌≡◌, ℕ, zero, suc, Bool, true, false, cond, List, [], ◌∷◌, ◌++◌, map, drop, refl, sym, ap, subst, ◌∙◌, Option, Some, None, slice_get, slice_index_or}
use Rattle.std.specs.List.{AllByRecursion}
use Rattle.wy_text.specs.declared.fault.AtomName.{AtomName}
use Rattle.wy_authority.specs.Authority.{whole_set}
use Rattle.wy_authority.specs.declared.rows.Authority.{Authority}
use Rattle.wy_authority.specs.declared.rows.InstanceRow.{InstanceRow}
use Rattle.wy_policy.specs.Allowed.{AllowsInstance, DeniesInstance, Judges, allows, has_name, line_of, row_for}
use Rattle.wy_policy.specs.Judging.{before, first_denied, is_allowed, judged, judgement_of, nameless}
use Rattle.wy_policy.specs.declared.policy.Judgement.{Judgement}
use Rattle.wy_policy.specs.declared.policy.Judgement.TheVariants as judgement
use Rattle.wy_policy.specs.declared.policy.PolicyRow.{PolicyRow}

-- ---- one instance

-- the atoms of these numbers, as far as all are allowed, or up to the first that is not
data Denial (atoms : List AtomName) (row : Option PolicyRow) (ns : List ℕ) : Option ℕ → Type 0 where
  none : AllByRecursion (λ atom. allows row atom ≡ true) (map (λ n. slice_index_or atoms n nameless) ns) → Denial atoms row ns None
  some : (n : ℕ) (earlier later : List AtomName) → map (λ n. slice_index_or atoms n nameless) ns ≡ earlier ++ slice_index_or atoms n nameless ∷ later → AllByRecursion (λ atom. allows row atom ≡ true) earlier →
      allows row (slice_index_or atoms n nameless) ≡ false → Denial atoms row ns (Some n)

denial : (atoms : List AtomName) (row : Option PolicyRow) (ns : List ℕ) → Denial atoms row ns (first_denied atoms row ns)
denial atoms row [] = none tt
denial atoms row (n ∷ ns) = go (is_allowed atoms row n) refl (first_denied atoms row ns) (denial atoms row ns)
  where
    go : (t : Bool) → is_allowed atoms row n ≡ t → (first : Option ℕ) → Denial atoms row ns first → Denial atoms row (n ∷ ns) (cond t first (Some n))
    go true e None (none h) = none (e, h)
    go true e (Some m) (some _ earlier later s h d) = some m (slice_index_or atoms n nameless ∷ earlier) later (ap (λ (l : List AtomName). slice_index_or atoms n nameless ∷ l) s) (e, h) d
    go false e first h = some n [] (map (λ n. slice_index_or atoms n nameless) ns) refl tt e

-- ---- all instances

data Judging (rows : List PolicyRow) (a : Authority) (instances : List InstanceRow) : Judgement → Type 0 where
  allowed : AllByRecursion (AllowsInstance rows a) instances → Judging rows a instances judgement.Allowed
  denied : (line : ℕ) (atom : AtomName) (before after : List InstanceRow) (instance : InstanceRow) → instances ≡ before ++ instance ∷ after → AllByRecursion (AllowsInstance rows a) before → DeniesInstance rows a instance line atom →
      Judging rows a instances (judgement.Denied line instance.name atom)

judging : (rows : List PolicyRow) (a : Authority) (instances : List InstanceRow) → Judging rows a instances (judged rows a.atoms instances)
judging rows a [] = allowed tt
judging rows a (i ∷ is) = go (first_denied a.atoms (row_for rows i.name) (whole_set i.bodies)) (denial a.atoms (row_for rows i.name) (whole_set i.bodies)) (judged rows a.atoms is) (judging rows a is)
  where
    go : (first : Option ℕ) → Denial a.atoms (row_for rows i.name) (whole_set i.bodies) first → (later : Judgement) → Judging rows a is later →
        Judging rows a (i ∷ is) (before (judgement_of a.atoms (row_for rows i.name) i.name first) later)
    go None (none h) judgement.Allowed (allowed k) = allowed (h, k)
    go None (none h) (judgement.Denied line name atom) (denied _ _ front back instance s k d) = denied line atom (i ∷ front) back instance (ap (λ (l : List InstanceRow). i ∷ l) s) (h, k) d
    go (Some n) (some _ earlier later s h d) others k =
        denied (line_of (row_for rows i.name)) (slice_index_or a.atoms n nameless) [] is i refl tt
        (record { earlier = earlier; later = later; atoms = s; allowed = h; denied = d; number = refl })

pub judges : (rows : List PolicyRow) (a : Authority) → Judges rows a (judged rows a.atoms a.rows)
judges rows a = go (judged rows a.atoms a.rows) (judging rows a a.rows)
  where
    go : (j : Judgement) → Judging rows a a.rows j → Judges rows a j
    go judgement.Allowed (allowed h) = h
    go (judgement.Denied line name atom) (denied _ _ front back instance s h d) = record { before = front; instance = instance; after = back; split = s; allowed = h; denied = d; named = refl }

-- ---- the loop over rows

pub row_here : (rows : List PolicyRow) (at : ℕ) (name : List ℕ) (r : PolicyRow) → slice_get rows at ≡ Some r → has_name r.pattern name ≡ true → row_for (drop at rows) name ≡ Some r
row_here [] at name r e h = absurd cc
row_here (x ∷ rows) zero name r e h = let k : x ≡ r = one x r e in ap (λ (z : PolicyRow). row_for (z ∷ rows) name) k ∙ rw h refl
  where
    one : (x r : PolicyRow) → Some x ≡ Some r → x ≡ r
    one x r e = cc
row_here (x ∷ rows) (suc at) name r e h = row_here rows at name r e h

pub row_later : (rows : List PolicyRow) (at : ℕ) (name : List ℕ) (r : PolicyRow) → slice_get rows at ≡ Some r → has_name r.pattern name ≡ false → row_for (drop at rows) name ≡ row_for (drop (suc at) rows) name
row_later [] at name r e h = absurd cc
row_later (x ∷ rows) zero name r e h = let k : has_name x.pattern name ≡ false = ap (λ (z : PolicyRow). has_name z.pattern name) (one x r e) ∙ h in rw k refl
  where
    one : (x r : PolicyRow) → Some x ≡ Some r → x ≡ r
    one x r e = cc
row_later (x ∷ rows) (suc at) name r e h = row_later rows at name r e h

pub judges_as : (rows rows' : List PolicyRow) (a : Authority) (atoms : List AtomName) (instances : List InstanceRow) (j : Judgement) → rows' ≡ rows → atoms ≡ a.atoms → instances ≡ a.rows → j ≡ judged rows' atoms instances → Judges rows a j
judges_as rows rows' a atoms instances j r s t e =
    let same : j ≡ judged rows a.atoms a.rows = e ∙ ap (λ (x : List PolicyRow). judged x atoms instances) r ∙ ap (λ (x : List AtomName). judged rows x instances) s ∙ ap (judged rows a.atoms) t in
    subst (Judges rows a) (sym same) (judges rows a)

-- ---- one judgement

none_denied : (atoms : List AtomName) (row : Option PolicyRow) (ns : List ℕ) → AllByRecursion (λ atom. allows row atom ≡ true) (map (λ n. slice_index_or atoms n nameless) ns) → first_denied atoms row ns ≡ None
none_denied atoms row [] h = refl
none_denied atoms row (n ∷ ns) h = let e : is_allowed atoms row n ≡ true = h.0 in rw e (none_denied atoms row ns h.1)

record Met (atoms : List AtomName) (row : Option PolicyRow) (ns : List ℕ) (atom : AtomName) : Type 0 where
  number : ℕ
  first : first_denied atoms row ns ≡ Some number
  named : slice_index_or atoms number nameless ≡ atom

head : {a b : AtomName} {u v : List AtomName} → a ∷ u ≡ b ∷ v → a ≡ b
head e = cc

tail : {a b : AtomName} {u v : List AtomName} → a ∷ u ≡ b ∷ v → u ≡ v
tail e = cc

some_denied : (atoms : List AtomName) (row : Option PolicyRow) (ns : List ℕ) (earlier later : List AtomName) (atom : AtomName) → map (λ n. slice_index_or atoms n nameless) ns ≡ earlier ++ atom ∷ later →
    AllByRecursion (λ other. allows row other ≡ true) earlier → allows row atom ≡ false → Met atoms row ns atom
some_denied atoms row [] [] later atom s h d = absurd cc
some_denied atoms row [] (a ∷ earlier) later atom s h d = absurd cc
some_denied atoms row (n ∷ ns) [] later atom s h d =
    let named : slice_index_or atoms n nameless ≡ atom = head s in
    let e : is_allowed atoms row n ≡ false = ap (allows row) named ∙ d in
    record { number = n; first = rw e refl; named = named }
some_denied atoms row (n ∷ ns) (a ∷ earlier) later atom s h d =
    let named : slice_index_or atoms n nameless ≡ a = head s in
    let ih = some_denied atoms row ns earlier later atom (tail s) h.1 d in
    let e : is_allowed atoms row n ≡ true = ap (allows row) named ∙ h.0 in
    record { number = ih.number; first = rw e ih.first; named = ih.named }

passed : (rows : List PolicyRow) (a : Authority) (i : InstanceRow) (is : List InstanceRow) → AllowsInstance rows a i → judged rows a.atoms (i ∷ is) ≡ judged rows a.atoms is
passed rows a i is h = ap (λ (o : Option ℕ). before (judgement_of a.atoms (row_for rows i.name) i.name o) (judged rows a.atoms is)) (none_denied a.atoms (row_for rows i.name) (whole_set i.bodies) h)

all_passed : (rows : List PolicyRow) (a : Authority) (is : List InstanceRow) → AllByRecursion (AllowsInstance rows a) is → judged rows a.atoms is ≡ judgement.Allowed
all_passed rows a [] h = refl
all_passed rows a (i ∷ is) h = passed rows a i is h.0 ∙ all_passed rows a is h.1

stopped : (rows : List PolicyRow) (a : Authority) (front back : List InstanceRow) (i : InstanceRow) (line : ℕ) (atom : AtomName) → AllByRecursion (AllowsInstance rows a) front → DeniesInstance rows a i line atom →
    judged rows a.atoms (front ++ i ∷ back) ≡ judgement.Denied line i.name atom
stopped rows a [] back i line atom h d =
    let met = some_denied a.atoms (row_for rows i.name) (whole_set i.bodies) d.earlier d.later atom d.atoms d.allowed d.denied in
    ap (λ (o : Option ℕ). before (judgement_of a.atoms (row_for rows i.name) i.name o) (judged rows a.atoms back)) met.first
    ∙ ap (λ (n : ℕ). judgement.Denied n i.name (slice_index_or a.atoms met.number nameless)) (sym d.number)
    ∙ ap (judgement.Denied line i.name) met.named
stopped rows a (other ∷ front) back i line atom h d = passed rows a other (front ++ i ∷ back) h.0 ∙ stopped rows a front back i line atom h.1 d

is_judged : (rows : List PolicyRow) (a : Authority) (j : Judgement) → Judges rows a j → j ≡ judged rows a.atoms a.rows
is_judged rows a judgement.Allowed h = sym (all_passed rows a a.rows h)
is_judged rows a (judgement.Denied line name atom) h =
    ap (λ (n : List ℕ). judgement.Denied line n atom) h.named ∙ sym (ap (judged rows a.atoms) h.split ∙ stopped rows a h.before h.after h.instance line atom h.allowed h.denied)

pub one_judgement : (rows : List PolicyRow) (a : Authority) (j k : Judgement) → Judges rows a j → Judges rows a k → j ≡ k
one_judgement rows a j k h l = is_judged rows a j h ∙ sym (is_judged rows a k l)
