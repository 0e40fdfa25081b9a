-- The own names of a scope fit, each at its number: its type is written, its module is there, its arguments come before it.
use Rattle.std.proofs.Common.{◌≡◌, ℕ, zero, suc, ◌+◌, ◌<◌, List, [], ◌∷◌, ◌++◌, map, length, Bool, true, false, Option, Some, None, inl, inr, refl, subst, arith}
use Rattle.std.specs.Prelude.{IfSome, slice_get}
use Rattle.std.proofs.lemmas.List.{length-map, length-append}
use Rattle.wy_text.specs.declared.fault.AtomName.{AtomName}
use Rattle.wy_syntax.specs.declared.types.Name.{Name}
use Rattle.wy_syntax.specs.declared.types.Param.{Param}
use Rattle.wy_syntax.specs.declared.items.Line.{Line}
use Rattle.wy_syntax.specs.declared.items.Line.TheVariants as line
use Rattle.wy_syntax.specs.declared.items.Grant.{Grant}
use Rattle.wy_text.specs.Members.{In, Within}
use Rattle.wy_text.proofs.Lists.{In-cases}
use Rattle.wy_types.specs.declared.resolved.ScopeKind.TheVariants.{Program as Main}
use Rattle.wy_types.specs.declared.resolved.OwnName.{OwnName}
use Rattle.wy_types.specs.Program.{Program, Scope}
use Rattle.wy_types.specs.Types.{is_plain}
use Rattle.wy_types.specs.Core.{OriginFits}
use Rattle.wy_symbols.specs.declared.scoping.Head.{Head}
use Rattle.wy_symbols.specs.declared.scoping.Owner.{Owner}
use Rattle.wy_symbols.specs.Declarations.{ModuleTree, first_from, module_number, module_names, texts}
use Rattle.wy_symbols.specs.Atoms.{head_names, type_number, params_owners, primitive_opening, grant_owner, use_owner, line_owner, set_of, owner_names}
use Rattle.wy_heads.specs.Lines.{number_or_zero, param_name, grant_name, grant_refusals, unless_opened, use_name, uses_refusals, unless_number, argument_numbers, argument_refusals, line_scope, line_name, line_names, line_refusals, lines_refusals}
use Rattle.wy_symbols.proofs.Firsts.{number_below}
use Rattle.wy_well_formed.proofs.Repeats.{append_empty}
use Rattle.wy_well_formed.proofs.Sets.{AllOpen, Holds, set_below}
use Rattle.wy_well_formed.proofs.Meant.{none_meant}
use Rattle.wy_well_formed.proofs.WrittenTypes.{Stands, Knows, use_stands}
use Rattle.wy_well_formed.proofs.OwnTypes.{instance_stands, import_stands, param_stands, grant_stands}

-- an own name of a number
pub record OwnFits (p : Program) (s : Scope) (plain : Bool) (k : ℕ) (n : OwnName) : Type 0 where
  pub written : Stands p (length s.atoms) plain n.typ
  pub origin : OriginFits p s k n n.origin

-- own names from a number on
abbrev pub AllOwn : Program → Scope → Bool → ℕ → List OwnName → Type 0
AllOwn p s plain k [] = Unit {0}
AllOwn p s plain k (n ∷ ns) = OwnFits p s plain k n × AllOwn p s plain (k + 1) ns

module _ (p : Program) (s : Scope) (plain : Bool) where
  own_from : (k : ℕ) (ns : List OwnName) → AllOwn p s plain k ns → (j : ℕ) (n : OwnName) → slice_get ns j ≡ Some n → OwnFits p s plain (k + j) n
  own_from k [] h j n e = cc
  own_from k (x ∷ ns) h zero n e =
      let same : x ≡ n = cc in
      let number : k ≡ k + 0 = omega arith in
      let P : OwnName → Type 0 = λ v. OwnFits p s plain k v in
      let Q : ℕ → Type 0 = λ v. OwnFits p s plain v n in
      subst Q number (subst P same h.0)
  own_from k (x ∷ ns) h (suc j) n e =
      let number : k + 1 + j ≡ k + suc j = omega arith in
      let Q : ℕ → Type 0 = λ v. OwnFits p s plain v n in
      subst Q number (own_from (k + 1) ns h.1 j n e)

  pub own_at : (ns : List OwnName) → AllOwn p s plain 0 ns → (j : ℕ) (n : OwnName) → slice_get ns j ≡ Some n → OwnFits p s plain j n
  own_at ns h j n e =
      let number : 0 + j ≡ j = omega arith in
      let Q : ℕ → Type 0 = λ v. OwnFits p s plain v n in
      subst Q number (own_from 0 ns h j n e)

  pub own_append : (k : ℕ) (xs ys : List OwnName) (j : ℕ) → j ≡ k + length xs → AllOwn p s plain k xs → AllOwn p s plain j ys → AllOwn p s plain k (xs ++ ys)
  own_append k [] ys j e h g =
      let number : j ≡ k = omega arith in
      let Q : ℕ → Type 0 = λ v. AllOwn p s plain v ys in
      subst Q number g
  own_append k (x ∷ xs) ys j e h g = (h.0, own_append (k + 1) xs ys j (omega arith) h.1 g)

------------------------------------------------------------
-- Numbers that are there

module _ (heads : List Head) (modules : List ModuleTree) (atoms : List AtomName) where
  number_there : (m : ℕ) (word : Name) (o : Option ℕ) → IfSome o (λ r. r < m) → unless_number heads modules atoms word o ≡ [] → number_or_zero o < m
  number_there m word None h e = cc
  number_there m word (Some r) h e = h

  module_there : (word : Name) → unless_number heads modules atoms word (module_number modules word.text) ≡ [] → number_or_zero (module_number modules word.text) < length modules
  module_there word e =
      let one = length-map modules (λ (m : ModuleTree). m.name) in
      let two = length-map (module_names modules) (λ (n : Name). n.text) in
      let below = number_there (length (texts (module_names modules))) word (module_number modules word.text) (number_below (texts (module_names modules)) word.text) e in
      omega (arith, one, two, below)

------------------------------------------------------------
-- Parameters, grants, uses and lines

module _ (p : Program) (s : Scope) (heads : List Head) (modules : List ModuleTree) (knows : Knows p heads) (all : List Owner)
    (opens : AllOpen (length s.atoms) heads s.atoms all) where
  -- what sees some of the owners
  view_holds : (owners : List Owner) → Within owners all → Holds (length s.atoms) (record { heads = heads; atoms = s.atoms; owners = owners; meanings = [] })
  view_holds owners w = record { owners = record { opens = λ o i. opens.opens o (w o i) }; meanings = none_meant (length s.atoms) }

  pub params_own : (plain : Bool) (owners : List Owner) (k : ℕ) (ps : List Param) → Within owners all → Within (params_owners (head_names heads) plain ps) all →
      AllOwn p s plain k (map (param_name (record { heads = heads; atoms = s.atoms; owners = owners; meanings = [] }) plain) ps)
  params_own true owners k [] w v = tt
  params_own false owners k [] w v = tt
  params_own true owners k (x ∷ ps) w v = (
    record { written = use_stands p (length s.atoms) (record { heads = heads; atoms = s.atoms; owners = owners; meanings = [] }) (view_holds owners w) knows true x.type_use; origin = tt },
    params_own true owners (k + 1) ps w (λ o i. v o (inr i)),
  )
  params_own false owners k (x ∷ ps) w v = (
    record {
      written = param_stands p (length s.atoms) (record { heads = heads; atoms = s.atoms; owners = owners; meanings = [] }) x.name.text x.type_use (view_holds owners w) knows (opens.opens _ (v _ (inl refl)));
      origin = tt;
    },
    params_own false owners (k + 1) ps w (λ o i. v o (inr i)),
  )

  -- grants of the program
  pub grants_own : (owners : List Owner) (k : ℕ) (gs : List Grant) → s.kind ≡ Main → Within (map (grant_owner (head_names heads)) gs) all → grant_refusals (head_names heads) gs ≡ [] →
      AllOwn p s false k (map (grant_name (record { heads = heads; atoms = s.atoms; owners = owners; meanings = [] })) gs)
  grants_own owners k [] main w e = tt
  grants_own owners k (g ∷ gs) main w e =
      let r = append_empty (unless_opened g.kind (primitive_opening (type_number (head_names heads) g.kind.text))) (grant_refusals (head_names heads) gs) e in
      let t = grant_stands p (length s.atoms) heads s.atoms g.name.text g.kind knows (opens.opens _ (w _ (inl refl))) r.0 in
      (record { written = t.stands; origin = (main, t.primitive) }, grants_own owners (k + 1) gs main (λ o i. w o (inr i)) r.1)

  -- uses
  pub uses_own : (k : ℕ) (us : List Name) → is_plain s.kind ≡ false → length modules + 1 ≡ length p.scopes → Within (map (use_owner (head_names heads) modules) us) all →
      uses_refusals heads modules s.atoms us ≡ [] → AllOwn p s false k (map (use_name heads modules s.atoms) us)
  uses_own k [] kind count w e = tt
  uses_own k (u ∷ us) kind count w e =
      let r = append_empty (unless_number heads modules s.atoms u (module_number modules u.text)) (uses_refusals heads modules s.atoms us) e in
      let below = module_there heads modules s.atoms u r.0 in (
        record {
          written = instance_stands p heads knows (length s.atoms) modules s.atoms u.text u.text (opens.opens _ (w _ (inl refl)));
          origin = (kind, omega (arith, below, count));
        },
        uses_own (k + 1) us kind count (λ o i. w o (inr i)) r.1,
      )

  -- arguments
  arguments_before : (before : List Owner) (ns : List Name) → argument_refusals heads modules s.atoms before ns ≡ [] → (a : ℕ) → In a (argument_numbers heads modules s.atoms before ns) → a < length before
  arguments_before before [] e a i = absurd i
  arguments_before before (n ∷ ns) e a (inl f) =
      let r = append_empty (unless_number heads modules s.atoms n (first_from 0 (owner_names before) n.text)) (argument_refusals heads modules s.atoms before ns) e in
      let below = number_there heads modules s.atoms (length (owner_names before)) n (first_from 0 (owner_names before) n.text) (number_below (owner_names before) n.text) r.0 in
      let same = length-map before (λ (o : Owner). o.name) in
      omega (arith, below, same, f)
  arguments_before before (n ∷ ns) e a (inr i) =
      arguments_before before ns ((append_empty (unless_number heads modules s.atoms n (first_from 0 (owner_names before) n.text)) (argument_refusals heads modules s.atoms before ns) e).1) a i

  -- a line sees the names before it
  line_fits : (before : List Owner) (l : Line) → is_plain s.kind ≡ false → length modules + 1 ≡ length p.scopes → Within before all → In (line_owner (head_names heads) modules l) all →
      line_refusals heads modules s.atoms before l ≡ [] → OwnFits p s false (length before) (line_name heads modules s.atoms before l)
  line_fits before (line.Instance x m ns) kind count w i e =
      let r = append_empty (unless_number heads modules s.atoms m (module_number modules m.text)) (argument_refusals heads modules s.atoms before ns) e in
      let below = module_there heads modules s.atoms m r.0 in
      record {
        written = instance_stands p heads knows (length s.atoms) modules s.atoms x.text m.text (opens.opens _ i);
        origin = (kind, omega (arith, below, count), arguments_before before ns r.1);
      }
  line_fits before (line.Import x m ns set) kind count w i e =
      let r = append_empty (unless_number heads modules s.atoms m (module_number modules m.text)) _ e in
      let q = append_empty (argument_refusals heads modules s.atoms before ns) _ r.1 in
      let below = module_there heads modules s.atoms m r.0 in
      let bound = set_below (length s.atoms) (line_scope heads modules s.atoms before) (view_holds before w) set in
      record {
        written = import_stands p heads knows (length s.atoms) modules s.atoms m.text (set_of (line_scope heads modules s.atoms before) set) bound;
        origin = (kind, omega (arith, below, count), arguments_before before ns q.0, bound);
      }

  pub lines_own : (before : List Owner) (ls : List Line) → is_plain s.kind ≡ false → length modules + 1 ≡ length p.scopes → Within before all → Within (map (line_owner (head_names heads) modules) ls) all →
      lines_refusals heads modules s.atoms before ls ≡ [] → AllOwn p s false (length before) (line_names heads modules s.atoms before ls)
  lines_own before [] kind count w v e = tt
  lines_own before (l ∷ ls) kind count w v e =
      let owner = line_owner (head_names heads) modules l in
      let r = append_empty (line_refusals heads modules s.atoms before l) _ e in
      let number : length (before ++ owner ∷ []) ≡ length before + 1 = (let a = length-append before (owner ∷ []) in omega (arith, a)) in
      let Q : ℕ → Type 0 = λ k. AllOwn p s false k (line_names heads modules s.atoms (before ++ owner ∷ []) ls) in
      let more : Within (before ++ owner ∷ []) all = λ o i. elim (In-cases o before (owner ∷ []) i) [
        | inl j ↦ w o j
        | inr j ↦ elim j [ inl f ↦ v o (inl f) | inr k ↦ absurd k ]
      ] in
      (line_fits before l kind count w (v owner (inl refl)) r.0, subst Q number (lines_own (before ++ owner ∷ []) ls kind count more (λ o i. v o (inr i)) r.1))
