-- The program's grants stand first among its own names: what stands behind them is a use or a line.
use Rattle.std.proofs.Common.{◌≡◌, List, [], ◌∷◌, ◌++◌, map, inl, inr, refl, sym, ap, ◌∙◌, subst}
use Rattle.wy_text.specs.declared.fault.AtomName.{AtomName}
use Rattle.wy_syntax.specs.declared.types.Name.{Name}
use Rattle.wy_syntax.specs.declared.items.Line.{Line}
use Rattle.wy_syntax.specs.declared.items.Line.TheVariants as line
use Rattle.wy_text.specs.Members.{In}
use Rattle.wy_text.proofs.Lists.{In-cases, In-unmap}
use Rattle.wy_types.specs.declared.resolved.OwnName.{OwnName}
use Rattle.wy_types.specs.declared.resolved.Origin.TheVariants.{Grant}
use Rattle.wy_types.specs.Ground.{names_of}
use Rattle.wy_rules.specs.OwnNames.{GrantsStandFirst}
use Rattle.wy_symbols.specs.declared.scoping.Head.{Head}
use Rattle.wy_symbols.specs.declared.scoping.Owner.{Owner}
use Rattle.wy_symbols.specs.Declarations.{ModuleTree, types_of, modules_of}
use Rattle.wy_symbols.specs.Atoms.{head_names, heads_of, line_owner}
use Rattle.wy_heads.specs.Lines.{grant_name, use_name, line_name, line_names}
use Rattle.wy_heads.specs.ScopeHeads.{grant_owners, program_atoms, program_scope}
use Rattle.wy_well_formed.specs.WellFormed.{ResolvedGrantsStandFirst}
use Rattle.wy_well_formed.proofs.EachScope.{program_scope_is}

abbrev AreGrants : List OwnName → Type 0
AreGrants ns = (n : OwnName) → In n ns → n.origin ≡ Grant

abbrev HaveNoGrant : List OwnName → Type 0
HaveNoGrant ns = (n : OwnName) → In n ns → n.origin ≡ Grant → ⊥

none_first : (rest : List OwnName) → HaveNoGrant rest → GrantsStandFirst rest
none_first [] h = tt
none_first (n ∷ ns) h = (λ m i e. absurd (h m (inr i) e), none_first ns (λ m i. h m (inr i)))

grants_first : (first rest : List OwnName) → AreGrants first → HaveNoGrant rest → GrantsStandFirst (first ++ rest)
grants_first [] rest g h = none_first rest h
grants_first (n ∷ ns) rest g h = (λ m i e. g n (inl refl), grants_first ns rest (λ m i. g m (inr i)) h)

module _ (heads : List Head) (modules : List ModuleTree) (atoms : List AtomName) where
  use_is_none : (us : List Name) → HaveNoGrant (map (use_name heads modules atoms) us)
  use_is_none us n i e =
      let u = In-unmap (use_name heads modules atoms) n us i in
      let same = ap (λ (m : OwnName). m.origin) u.2 in
      absurd (let t = same ∙ e in cc)

  line_is_none : (before : List Owner) (l : Line) → (line_name heads modules atoms before l).origin ≡ Grant → ⊥
  line_is_none before (line.Instance x m ns) e = cc
  line_is_none before (line.Import x m ns set) e = cc

  lines_are_none : (before : List Owner) (ls : List Line) → HaveNoGrant (line_names heads modules atoms before ls)
  lines_are_none before [] n i e = i
  lines_are_none before (l ∷ ls) n (inl same) e = line_is_none before l (ap (λ (m : OwnName). m.origin) same ∙ e)
  lines_are_none before (l ∷ ls) n (inr i) e = lines_are_none (before ++ line_owner (head_names heads) modules l ∷ []) ls n i e

pub grants_stand_first : ResolvedGrantsStandFirst
grants_stand_first items p r =
    let modules = modules_of items in
    let heads = heads_of (types_of items) in
    let g = r.program in
    let atoms = program_atoms heads modules g in
    let uses = map (use_name heads modules atoms) g.uses in
    let lines = line_names heads modules atoms (grant_owners heads modules g) g.lines in
    let granted : AreGrants (map (grant_name (program_scope heads modules g)) g.grants) =
    λ n i. (let u = In-unmap (grant_name (program_scope heads modules g)) n g.grants i in sym (ap (λ (m : OwnName). m.origin) u.2)) in
    let others : HaveNoGrant (uses ++ lines) =
    λ n i. elim (In-cases n uses lines i) [
      | inl j ↦ use_is_none heads modules atoms g.uses n j
      | inr j ↦ lines_are_none heads modules atoms (grant_owners heads modules g) g.lines n j
    ] in
    let P : List OwnName → Type 0 = λ l. GrantsStandFirst l in
    subst P (sym (ap names_of (program_scope_is items p r))) (grants_first _ (uses ++ lines) granted others)
