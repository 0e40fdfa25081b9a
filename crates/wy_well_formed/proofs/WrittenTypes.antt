-- What a written type stands for has its numbers in range and the sets that its scope asks.
use Rattle.std.proofs.Common.{◌≡◌, ℕ, suc, ◌<◌, List, [], ◌∷◌, length, Bool, true, false, Option, Some, None, inl, inr, refl, ap, ◌∙◌, subst}
use Rattle.std.specs.Prelude.{IfSome, slice_get, if◌then◌else◌}
use Rattle.std.proofs.lemmas.List.{length-map}
use Rattle.wy_text.specs.declared.fault.AtomName.{AtomName}
use Rattle.wy_syntax.specs.declared.types.AtomUse.{AtomUse}
use Rattle.wy_syntax.specs.declared.types.MemberSet.{MemberSet}
use Rattle.wy_syntax.specs.declared.types.TypeUse.{TypeUse}
use Rattle.wy_syntax.specs.declared.types.TypeUse.TheVariants as use_of
use Rattle.wy_effects.specs.EffSet.{IsSet, AreSets}
use Rattle.wy_text.proofs.Lists.{In-unmap}
use Rattle.wy_types.specs.declared.types.TypeRef.{TypeRef}
use Rattle.wy_types.specs.Program.{Program}
use Rattle.wy_types.specs.Fitting.{FitsType}
use Rattle.wy_types.specs.MemberCount.{member_count}
use Rattle.wy_types.specs.Core.{HasSets}
use Rattle.wy_symbols.specs.declared.scoping.Head.{Head}
use Rattle.wy_symbols.specs.Declarations.{same_name}
use Rattle.wy_symbols.specs.Meanings.{abstract_names}
use Rattle.wy_symbols.specs.Atoms.{AtomScope, head_names, type_number, members_of, owner_sets, set_of}
use Rattle.wy_symbols.specs.TypeUses.{written_set, written_sets, named_type, bound_type, type_ref, effect_of}
use Rattle.wy_symbols.proofs.Firsts.{number_below}
use Rattle.wy_well_formed.proofs.Sets.{Holds, set_below}

-- a type over the sets below `n`, in a plain scope or another
abbrev pub Stands : Program → ℕ → Bool → TypeRef → Type 0
Stands p n plain t = FitsType p n 0 t × HasSets p plain t

-- the declarations of a program have the members of the types that are known
pub record Knows (p : Program) (heads : List Head) : Type 0 where
  pub types : length heads ≡ length p.declarations
  pub members : (d : ℕ) → length (abstract_names (members_of heads d)) ≡ member_count (slice_get p.declarations d)

abbrev pub IsType : Program → Option ℕ → Type 0
IsType p o = IfSome o (λ d. d < length p.declarations)

-- a type's number is that of a declaration
pub number_known : (p : Program) (heads : List Head) (x : List ℕ) → Knows p heads → IsType p (type_number (head_names heads) x)
number_known p heads x knows =
    let same : length (head_names heads) ≡ length p.declarations = length-map heads (λ (h : Head). h.name) ∙ knows.types in
    let P : ℕ → Type 0 = λ m. IfSome (type_number (head_names heads) x) (λ r. r < m) in
    subst P same (number_below (head_names heads) x)

pub owner_sets_count : (atoms : List AtomName) (owner : List ℕ) (ms : List (List ℕ)) → length (owner_sets atoms owner ms) ≡ length ms
owner_sets_count atoms owner [] = refl
owner_sets_count atoms owner (m ∷ ms) = ap suc (owner_sets_count atoms owner ms)

module _ (p : Program) (n : ℕ) (s : AtomScope) (holds : Holds n s) (knows : Knows p s.heads) where
  written_set_below : (sets : List MemberSet) (x : List ℕ) → IsSet n (written_set s sets x)
  written_set_below [] x = tt
  written_set_below (m ∷ ms) x =
      let P : Bool → Type 0 = λ b. IsSet n (if b then set_of s m.effect else written_set s ms x) in
      elim (same_name m.name.text x) as P [ true ↦ set_below n s holds m.effect | false ↦ written_set_below ms x ]

  written_sets_below : (sets : List MemberSet) (members : List (List ℕ)) → AreSets n (written_sets s sets members)
  written_sets_below sets members t i =
      let r = In-unmap (written_set s sets) t members i in
      let P : List ℕ → Type 0 = λ v. IsSet n v in
      subst P r.2 (written_set_below sets r.0)

  named_stands : (plain : Bool) (sets : List MemberSet) (o : Option ℕ) → IsType p o → Stands p n plain (named_type s plain sets o)
  named_stands true sets None h = (tt, tt)
  named_stands false sets None h = (tt, tt)
  named_stands true sets (Some d) h = ((h, inr refl, λ t i. absurd i), refl)
  named_stands false sets (Some d) h =
      let members = abstract_names (members_of s.heads d) in
      let count = length-map members (written_set s sets) ∙ knows.members d in
      ((h, inl count, written_sets_below sets members), count)

  bound_stands : (plain : Bool) (set : List AtomUse) (o : Option ℕ) → IsType p o → Stands p n plain (bound_type s plain set o)
  bound_stands true set None h = (tt, tt)
  bound_stands false set None h = (tt, tt)
  bound_stands true set (Some d) h = ((h, inr refl, λ t i. absurd i), refl)
  bound_stands false set (Some d) h = ((h, set_below n s holds set), tt)

  -- a written type
  pub use_stands : (plain : Bool) (u : TypeUse) → Stands p n plain (type_ref s plain u)
  use_stands plain (use_of.Int q) = (tt, tt)
  use_stands plain (use_of.Bool q) = (tt, tt)
  use_stands plain (use_of.Text q) = (tt, tt)
  use_stands plain (use_of.Unit q) = (tt, tt)
  use_stands plain (use_of.Bare x) = named_stands plain [] (type_number (head_names s.heads) x.text) (number_known p s.heads x.text knows)
  use_stands plain (use_of.With x sets) = named_stands plain sets (type_number (head_names s.heads) x.text) (number_known p s.heads x.text knows)
  use_stands plain (use_of.At x set) = bound_stands plain set (type_number (head_names s.heads) x.text) (number_known p s.heads x.text knows)

  -- a written effect
  pub effect_below : (plain : Bool) (e : Option (List AtomUse)) → IsSet n (effect_of s plain e)
  effect_below plain None = tt
  effect_below true (Some set) = tt
  effect_below false (Some set) = set_below n s holds set
