-- The types that names of a program stand for are its declarations.
use Rattle.std.proofs.Common.{◌≡◌, ℕ, zero, suc, List, [], ◌∷◌, ◌++◌, map, length, refl, sym, ap, ◌∙◌}
use Rattle.std.specs.Prelude.{slice_get}
use Rattle.std.proofs.lemmas.List.{map-append}
use Rattle.wy_syntax.specs.declared.items.TypeDecl.{TypeDecl}
use Rattle.wy_types.specs.declared.resolved.TypeDecl as core
use Rattle.wy_types.specs.MemberCount.{member_count}
use Rattle.wy_types.specs.Ground.{abstract_names as declared_members}
use Rattle.wy_types.specs.Bounds.{declaration_bounds}
use Rattle.wy_types.specs.Primitive.{primitive_types}
use Rattle.wy_types.specs.Program.{Program}
use Rattle.wy_symbols.specs.declared.scoping.Head.{Head}
use Rattle.wy_symbols.specs.Declarations.{texts, type_names}
use Rattle.wy_symbols.specs.Meanings.{abstract_names, abstract_bounds}
use Rattle.wy_symbols.specs.Atoms.{head, head_names, members_of, primitive_head, primitive_names, all_names, heads_of}
use Rattle.wy_symbols.specs.TypeUses.{declaration, declarations_of}
use Rattle.wy_well_formed.proofs.WrittenTypes.{Knows}

-- one by one, heads and declarations have the same abstract members with the same upper bounds
abbrev AreAlike : List Head → List core.TypeDecl → Type 0
AreAlike [] [] = Unit {0}
AreAlike [] (d ∷ ds) = ⊥
AreAlike (h ∷ hs) [] = ⊥
AreAlike (h ∷ hs) (d ∷ ds) = (abstract_names h.members ≡ d.members) × (abstract_bounds h.members ≡ d.bounds) × AreAlike hs ds

alike_length : (hs : List Head) (ds : List core.TypeDecl) → AreAlike hs ds → length hs ≡ length ds
alike_length [] [] a = refl
alike_length [] (d ∷ ds) a = absurd a
alike_length (h ∷ hs) [] a = absurd a
alike_length (h ∷ hs) (d ∷ ds) a = ap suc (alike_length hs ds a.2)

alike_members : (hs : List Head) (ds : List core.TypeDecl) → AreAlike hs ds → (k : ℕ) → length (abstract_names (members_of hs k)) ≡ member_count (slice_get ds k)
alike_members [] [] a k = refl
alike_members [] (d ∷ ds) a k = absurd a
alike_members (h ∷ hs) [] a k = absurd a
alike_members (h ∷ hs) (d ∷ ds) a zero = ap (λ (l : List (List ℕ)). length l) a.0
alike_members (h ∷ hs) (d ∷ ds) a (suc k) = alike_members hs ds a.2 k

declared_alike : (heads : List Head) (types : List TypeDecl) → AreAlike (map head types) (map (declaration heads) types)
declared_alike heads [] = tt
declared_alike heads (d ∷ ds) = (refl, refl, declared_alike heads ds)

all_alike : (types : List TypeDecl) → AreAlike (heads_of types) (declarations_of (heads_of types) types)
all_alike types = (refl, refl, (refl, refl, (refl, refl, (refl, refl, (refl, refl, declared_alike (heads_of types) types)))))

pub heads_known : (p : Program) (types : List TypeDecl) → p.declarations ≡ declarations_of (heads_of types) types → Knows p (heads_of types)
heads_known p types e =
    let alike = all_alike types in
    record {
      types = alike_length (heads_of types) (declarations_of (heads_of types) types) alike ∙ ap (λ (l : List core.TypeDecl). length l) (sym e);
      members = λ d. alike_members (heads_of types) (declarations_of (heads_of types) types) alike d ∙ ap (λ l. member_count (slice_get l d)) (sym e);
    }

-- the declarations of a program have the abstract members of the types that are known, by their names, and the same upper bounds
pub record KnowsMembers (p : Program) (heads : List Head) : Type 0 where
  pub same : (d : ℕ) → declared_members (slice_get p.declarations d) ≡ abstract_names (members_of heads d)
  pub bounds : (d : ℕ) → declaration_bounds (slice_get p.declarations d) ≡ abstract_bounds (members_of heads d)

alike_names : (hs : List Head) (ds : List core.TypeDecl) → AreAlike hs ds → (k : ℕ) → declared_members (slice_get ds k) ≡ abstract_names (members_of hs k)
alike_names [] [] a k = refl
alike_names [] (d ∷ ds) a k = absurd a
alike_names (h ∷ hs) [] a k = absurd a
alike_names (h ∷ hs) (d ∷ ds) a zero = sym a.0
alike_names (h ∷ hs) (d ∷ ds) a (suc k) = alike_names hs ds a.2 k

alike_bounds : (hs : List Head) (ds : List core.TypeDecl) → AreAlike hs ds → (k : ℕ) → declaration_bounds (slice_get ds k) ≡ abstract_bounds (members_of hs k)
alike_bounds [] [] a k = refl
alike_bounds [] (d ∷ ds) a k = absurd a
alike_bounds (h ∷ hs) [] a k = absurd a
alike_bounds (h ∷ hs) (d ∷ ds) a zero = sym a.1
alike_bounds (h ∷ hs) (d ∷ ds) a (suc k) = alike_bounds hs ds a.2 k

pub members_known : (p : Program) (types : List TypeDecl) → p.declarations ≡ declarations_of (heads_of types) types → KnowsMembers p (heads_of types)
members_known p types e = record {
  same = λ d. ap (λ l. declared_members (slice_get l d)) e ∙ alike_names (heads_of types) (declarations_of (heads_of types) types) (all_alike types) d;
  bounds = λ d. ap (λ l. declaration_bounds (slice_get l d)) e ∙ alike_bounds (heads_of types) (declarations_of (heads_of types) types) (all_alike types) d;
}

-- the names of the types are those of the declarations, in their order
declared_head_names : (types : List TypeDecl) → head_names (map head types) ≡ texts (type_names types)
declared_head_names [] = refl
declared_head_names (d ∷ ds) = ap (λ l. d.name.text ∷ l) (declared_head_names ds)

pub head_names_are : (types : List TypeDecl) → head_names (heads_of types) ≡ all_names types
head_names_are types =
    map-append (λ (h : Head). h.name) (map primitive_head primitive_types) (map head types) ∙ ap (λ l. primitive_names ++ l) (declared_head_names types)

declared_names : (heads : List Head) (types : List TypeDecl) → map (λ (d : core.TypeDecl). d.name) (map (declaration heads) types) ≡ texts (type_names types)
declared_names heads [] = refl
declared_names heads (d ∷ ds) = ap (λ l. d.name.text ∷ l) (declared_names heads ds)

pub declaration_names : (heads : List Head) (types : List TypeDecl) → map (λ (d : core.TypeDecl). d.name) (declarations_of heads types) ≡ all_names types
declaration_names heads types =
    map-append (λ (d : core.TypeDecl). d.name) primitive_types (map (declaration heads) types) ∙ ap (λ l. primitive_names ++ l) (declared_names heads types)
