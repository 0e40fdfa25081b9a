-- The own names of a program whose names resolve have their types: scope by scope, parameters first.
use Rattle.std.proofs.Common.{◌≡◌, ℕ, ◌+◌, List, [], ◌∷◌, ◌++◌, map, Bool, true, false, inl, inr, refl, sym, ap, ◌∙◌, subst, arith}
use Rattle.std.specs.Prelude.{if◌then◌else◌}
use Rattle.wy_text.specs.declared.fault.AtomName.{AtomName}
use Rattle.wy_syntax.specs.declared.types.Name.{Name}
use Rattle.wy_syntax.specs.declared.types.Param.{Param}
use Rattle.wy_syntax.specs.declared.items.Line.{Line}
use Rattle.wy_syntax.specs.Trees.{ItemTree}
use Rattle.wy_text.specs.Members.{In, Within, Apart}
use Rattle.wy_text.proofs.Lists.{In-cases, In-unmap}
use Rattle.wy_types.specs.declared.resolved.ScopeKind.{ScopeKind}
use Rattle.wy_types.specs.declared.resolved.ScopeKind.TheVariants.{Pure, Resource, Plain, Program as Main}
use Rattle.wy_types.specs.declared.resolved.OwnName.{OwnName}
use Rattle.wy_types.specs.declared.resolved.Origin.{Origin}
use Rattle.wy_types.specs.declared.resolved.Origin.TheVariants.{Parameter, Grant, Use, Instance, Import}
use Rattle.wy_types.specs.Program.{Program, Scope}
use Rattle.wy_types.specs.Types.{is_plain}
use Rattle.wy_types.specs.Fitting.{FitsType}
use Rattle.wy_types.specs.Core.{IsCore}
use Rattle.wy_rules.specs.Acceptance.{is_parameter, parameters_until, parameters_among}
use Rattle.wy_rules.specs.OwnNames.{names_bounds, opened_count, after_parameters, HasItsType, HaveTheirTypes, MayHave, OwnNamesFit, LinesAreTyped}
use Rattle.wy_symbols.specs.declared.scoping.Head.{Head}
use Rattle.wy_symbols.specs.declared.scoping.Owner.{Owner}
use Rattle.wy_symbols.specs.Declarations.{ModuleTree, ProgramTree, types_of, modules_of}
use Rattle.wy_symbols.specs.Atoms.{AtomScope, head_names, params_owners, grant_owner, heads_of, atom_scope}
use Rattle.wy_heads.specs.Lines.{param_name, grant_name, use_name, uses_refusals, line_names, lines_refusals}
use Rattle.wy_heads.specs.ScopeHeads.{use_owners, line_owners, param_owners, module_owners, module_atoms, param_scope, module_own, program_owners, program_atoms, program_scope, program_own}
use Rattle.wy_names.specs.Scopes.{scope_of_module, scope_of_program, refusals_of, resolved}
use Rattle.wy_well_formed.specs.WellFormed.{ResolvedNamesFit}
use Rattle.wy_well_formed.proofs.FittingBodies.{parts_fit, body_fits, no_own_bodies}
use Rattle.wy_well_formed.proofs.Sets.{AllOpen}
use Rattle.wy_well_formed.proofs.Meant.{none_meant}
use Rattle.wy_well_formed.proofs.WrittenTypes.{Knows, use_stands}
use Rattle.wy_well_formed.proofs.Known.{KnowsMembers, heads_known, members_known}
use Rattle.wy_well_formed.proofs.OwnTypes.{param_stands}
use Rattle.wy_well_formed.proofs.OwnApart.{own_texts}
use Rattle.wy_well_formed.proofs.ModuleForms.{HasForm, is_module, pure_is_bare, modules_have_form}
use Rattle.wy_well_formed.proofs.ModuleScopes.{NotRefused}
use Rattle.wy_well_formed.proofs.ProgramScope.{ProgramNotRefused}
use Rattle.wy_well_formed.proofs.AtomsOpened.{owned_count, AreNumbered, numbered_left, numbered_right, all_numbered_open}
use Rattle.wy_well_formed.proofs.OwnTyped.{AreSealed, following_count, params_follow, grants_follow, uses_follow, typed_append, grants_typed, uses_typed, lines_typed}
use Rattle.wy_well_formed.proofs.ScopeBounds.{DeclarationsFit, names_behind, owners_after, all_follow, all_numbered, scope_bounds_are}
use Rattle.wy_well_formed.proofs.SealedModules.{modules_sealed}
use Rattle.wy_well_formed.proofs.Assembled.{nothing_in}
use Rattle.wy_well_formed.proofs.Resolved.{ItemsNotRefused, items_not_refused, resolved_core}

------------------------------------------------------------
-- Parameters stand first

abbrev AreParameters : List OwnName → Type 0
AreParameters ns = (n : OwnName) → In n ns → is_parameter n.origin ≡ true

-- a name that has its type as one behind the parameters is none
other_origin : (p : Program) (k : ℕ) (n : OwnName) (o : Origin) → HasItsType p k n o → is_parameter o ≡ false
other_origin p k n (Parameter bare) h = absurd h
other_origin p k n Grant h = refl
other_origin p k n (Use m) h = refl
other_origin p k n (Instance m arguments) h = refl
other_origin p k n (Import m arguments bound) h = refl

none_among : (p : Program) (k : ℕ) (rest : List OwnName) → HaveTheirTypes p k rest → parameters_among rest ≡ []
none_among p k [] h = refl
none_among p k (n ∷ ns) h = ap (λ b. parameters_until b n (parameters_among ns)) (other_origin p k n n.origin h.0)

all_after : (p : Program) (k : ℕ) (rest : List OwnName) → HaveTheirTypes p k rest → after_parameters rest ≡ rest
all_after p k [] h = refl
all_after p k (n ∷ ns) h = ap (λ (b : Bool). if b then after_parameters ns else n ∷ ns) (other_origin p k n n.origin h.0)

module _ (rest : List OwnName) where
  among_first : (first : List OwnName) → AreParameters first → parameters_among rest ≡ [] → parameters_among (first ++ rest) ≡ first
  among_first [] h e = e
  among_first (n ∷ ns) h e =
      ap (λ b. parameters_until b n (parameters_among (ns ++ rest))) (h n (inl refl)) ∙ ap (λ l. n ∷ l) (among_first ns (λ m i. h m (inr i)) e)

  after_first : (first : List OwnName) → AreParameters first → after_parameters rest ≡ rest → after_parameters (first ++ rest) ≡ rest
  after_first [] h e = e
  after_first (n ∷ ns) h e =
      ap (λ (b : Bool). if b then after_parameters (ns ++ rest) else n ∷ (ns ++ rest)) (h n (inl refl)) ∙ after_first ns (λ m i. h m (inr i)) e

fits : (p : Program) (s : Scope) (first rest : List OwnName) → s.names ≡ first ++ rest → AreParameters first → MayHave s.kind first →
    ((n : OwnName) → In n first → FitsType p (opened_count p first) 0 n.typ) → HaveTheirTypes p (opened_count p first) rest →
    s.bounds ≡ names_bounds p 0 s.names → OwnNamesFit p s
fits p s first rest names are may fit have bounds =
    let k = opened_count p first in
    let among : parameters_among s.names ≡ first = ap (λ l. parameters_among l) names ∙ among_first rest first are (none_among p k rest have) in
    let after : after_parameters s.names ≡ rest = ap (λ l. after_parameters l) names ∙ after_first rest first are (all_after p k rest have) in
    let P : List OwnName → Type 0 = λ l. (n : OwnName) → In n l → FitsType p (opened_count p l) 0 n.typ in
    let Q : List OwnName → Type 0 = λ l. HaveTheirTypes p (opened_count p l) rest in
    record {
      may_have = subst (λ l. MayHave s.kind l) (sym among) may;
      parameters = subst P (sym among) fit;
      others = subst (λ l. HaveTheirTypes p (opened_count p (parameters_among s.names)) l) (sym after) (subst Q (sym among) have);
      bounds = bounds;
    }

------------------------------------------------------------
-- Scopes

module _ (p : Program) (heads : List Head) (modules : List ModuleTree) (fit : DeclarationsFit p) (known : Knows p heads) (knows : KnowsMembers p heads)
    (sealed : AreSealed p heads modules) where
  owned_append : (xs ys : List Owner) → owned_count heads (xs ++ ys) ≡ owned_count heads xs + owned_count heads ys
  owned_append [] ys = omega arith
  owned_append (x ∷ xs) ys = (let r = owned_append xs ys in omega (arith, r))

  rest_typed : (owners : List Owner) (atoms : List AtomName) (us : List Name) (ls : List Line) → AreNumbered heads atoms 0 (owners_after heads modules owners us ls) →
      uses_refusals heads modules atoms us ≡ [] → lines_refusals heads modules atoms (owners ++ use_owners heads modules us) ls ≡ [] →
      HaveTheirTypes p (owned_count heads owners) (names_behind heads modules owners atoms us ls)
  rest_typed owners atoms us ls numbered eu el =
      let uses = map (use_name heads modules atoms) us in
      let used = use_owners heads modules us in
      let before = owners ++ used in
      let lined = line_owners heads modules ls in
      let early = numbered_left heads atoms 0 before lined numbered in
      let k = owned_count heads owners in
      let n = owned_count heads before in
      let a = owned_append owners used in
      let b = following_count p heads knows uses used (uses_follow p heads knows modules atoms us) in
      typed_append p heads knows k n uses (line_names heads modules atoms before ls) (omega (arith, a, b))
      (uses_typed p heads knows modules sealed atoms k us (numbered_right heads atoms 0 k owners used (omega arith) early) eu)
      (lines_typed p heads knows modules sealed atoms n before ls (all_numbered_open heads atoms n before early (omega arith))
      (numbered_right heads atoms 0 n before lined (omega arith) numbered) el)

  ------------------------------------------------------------
  -- A module

  params_are : (s : AtomScope) (plain : Bool) (ps : List Param) → AreParameters (map (param_name s plain) ps)
  params_are s true [] n i = absurd i
  params_are s false [] n i = absurd i
  params_are s true (x ∷ ps) n (inl e) = let P : OwnName → Type 0 = λ v. is_parameter v.origin ≡ true in subst P e refl
  params_are s false (x ∷ ps) n (inl e) = let P : OwnName → Type 0 = λ v. is_parameter v.origin ≡ true in subst P e refl
  params_are s true (x ∷ ps) n (inr i) = params_are s true ps n i
  params_are s false (x ∷ ps) n (inr i) = params_are s false ps n i

  params_fit : (k : ℕ) (atoms : List AtomName) (owners : List Owner) (plain : Bool) (ps : List Param) → AllOpen k heads atoms owners →
      Within (params_owners (head_names heads) plain ps) owners →
      (n : OwnName) → In n (map (param_name (atom_scope heads atoms owners []) plain) ps) → FitsType p k 0 n.typ
  params_fit k atoms owners true [] opens w n i = absurd i
  params_fit k atoms owners false [] opens w n i = absurd i
  params_fit k atoms owners true (x ∷ ps) opens w n (inl e) =
      let s = atom_scope heads atoms owners [] in
      let P : OwnName → Type 0 = λ v. FitsType p k 0 v.typ in
      subst P e (use_stands p k s (record { owners = opens; meanings = none_meant k }) known true x.type_use).0
  params_fit k atoms owners false (x ∷ ps) opens w n (inl e) =
      let s = atom_scope heads atoms owners [] in
      let P : OwnName → Type 0 = λ v. FitsType p k 0 v.typ in
      subst P e (param_stands p k s x.name.text x.type_use (record { owners = opens; meanings = none_meant k }) known (opens.opens _ (w _ (inl refl)))).0
  params_fit k atoms owners true (x ∷ ps) opens w n (inr i) = params_fit k atoms owners true ps opens (λ o j. w o (inr j)) n i
  params_fit k atoms owners false (x ∷ ps) opens w n (inr i) = params_fit k atoms owners false ps opens (λ o j. w o (inr j)) n i

  may_have : (kind : ScopeKind) (m : ModuleTree) → HasForm kind m → (first : List OwnName) → (m.params ≡ [] → first ≡ []) → MayHave kind first
  may_have Pure m form first h = h (pure_is_bare m form)
  may_have Resource m form first h = tt
  may_have Plain m form first h = tt
  may_have Main m form first h = absurd (is_module Main m form refl)

  module_names_fit : (m : ModuleTree) → HasForm m.kind m → NotRefused heads modules m → Apart (own_texts (module_own heads modules m)) →
      OwnNamesFit p (scope_of_module heads modules m)
  module_names_fit m form sound d =
      let plain = is_plain m.kind in
      let atoms = module_atoms heads modules m in
      let owners = param_owners heads modules m in
      let first = map (param_name (param_scope heads modules m) plain) m.params in
      let rest = names_behind heads modules owners atoms m.uses m.lines in
      let follow = params_follow p heads knows atoms owners plain m.params in
      let all = all_follow heads modules p knows first owners atoms m.uses m.lines follow in
      let numbered = all_numbered p heads knows fit (module_own heads modules m) (module_owners heads modules m) all d in
      let early = numbered_left heads atoms 0 (owners ++ use_owners heads modules m.uses) (line_owners heads modules m.lines) numbered in
      let mine = numbered_left heads atoms 0 owners (use_owners heads modules m.uses) early in
      let k = owned_count heads owners in
      let count : opened_count p first ≡ k = following_count p heads knows first owners follow in
      let P : ℕ → Type 0 = λ v. (n : OwnName) → In n first → FitsType p v 0 n.typ in
      let Q : ℕ → Type 0 = λ v. HaveTheirTypes p v rest in
      fits p (scope_of_module heads modules m) first rest refl (params_are (param_scope heads modules m) plain m.params)
      (may_have m.kind m form first (λ e. ap (λ ps. map (param_name (param_scope heads modules m) plain) ps) e))
      (subst P (sym count) (params_fit k atoms owners plain m.params (all_numbered_open heads atoms k owners mine (omega arith)) (λ o i. i)))
      (subst Q (sym count) (rest_typed owners atoms m.uses m.lines numbered sound.uses sound.lines))
      (scope_bounds_are p heads knows fit (module_own heads modules m) (module_owners heads modules m) all d)

  ------------------------------------------------------------
  -- The program

  program_names_fit : (g : ProgramTree) → ProgramNotRefused heads modules g → Apart (own_texts (program_own heads modules g)) →
      OwnNamesFit p (scope_of_program heads modules g)
  program_names_fit g sound d =
      let atoms = program_atoms heads modules g in
      let owners = map (grant_owner (head_names heads)) g.grants in
      let first = map (grant_name (program_scope heads modules g)) g.grants in
      let rest = names_behind heads modules owners atoms g.uses g.lines in
      let follow = grants_follow p heads knows atoms (program_owners heads modules g) g.grants in
      let all = all_follow heads modules p knows first owners atoms g.uses g.lines follow in
      let numbered = all_numbered p heads knows fit (program_own heads modules g) (program_owners heads modules g) all d in
      let early = numbered_left heads atoms 0 (owners ++ use_owners heads modules g.uses) (line_owners heads modules g.lines) numbered in
      let mine = numbered_left heads atoms 0 owners (use_owners heads modules g.uses) early in
      let k = owned_count heads owners in
      let count : opened_count p first ≡ k = following_count p heads knows first owners follow in
      let have = typed_append p heads knows 0 k first rest (omega (arith, count))
      (grants_typed p heads knows atoms (program_owners heads modules g) 0 g.grants mine sound.grants)
      (rest_typed owners atoms g.uses g.lines numbered sound.uses sound.lines) in
      fits p (scope_of_program heads modules g) [] (program_own heads modules g) refl (λ n i. absurd i) refl (λ n i. absurd i) have
      (scope_bounds_are p heads knows fit (program_own heads modules g) (program_owners heads modules g) all d)

------------------------------------------------------------
-- All scopes

scopes_fit : (items : List ItemTree) (g : ProgramTree) → ItemsNotRefused items g → IsCore (resolved items g) → LinesAreTyped (resolved items g)
scopes_fit items g sound core s i =
    let p = resolved items g in
    let modules = modules_of items in
    let heads = heads_of (types_of items) in
    let known = heads_known p (types_of items) refl in
    let knows = members_known p (types_of items) refl in
    let sealed = modules_sealed p heads modules (scope_of_program heads modules g) refl sound.modules in
    let declared : DeclarationsFit p = record { each = core.declarations } in
    let P : Scope → Type 0 = λ v. Apart (own_texts v.names) → OwnNamesFit p v in
    let fit : P s = elim (In-cases s (map (scope_of_module heads modules) modules) (scope_of_program heads modules g ∷ []) i) [
      | inl j ↦ (
          let r = In-unmap (scope_of_module heads modules) s modules j in
          subst P r.2 (module_names_fit p heads modules declared known knows sealed r.0 (modules_have_form items r.0 r.1) (sound.modules r.0 r.1)))
      | inr j ↦ elim j [ inl e ↦ subst P e (program_names_fit p heads modules declared known knows sealed g sound.program) | inr l ↦ absurd l ]
    ] in
    fit ((core.scopes s i).own_names)

pub names_fit : ResolvedNamesFit
names_fit items p r =
    let core = resolved_core parts_fit body_fits no_own_bodies items p r in
    let nothing : refusals_of items ≡ [] = nothing_in (refusals_of items) (λ x i. r.sound x (inl i)) in
    let P : Program → Type 0 = λ v. IsCore v → LinesAreTyped v in
    (subst P (sym r.bound) (scopes_fit items r.program (items_not_refused items r.program r.one nothing))) core
