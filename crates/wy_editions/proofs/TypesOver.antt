-- Programs over the two tables of primitive types differ in the fifth type alone, which no declared method names.
use Rattle.std.proofs.Common.{◌≡◌, ℕ, zero, suc, List, [], ◌∷◌, ◌++◌, map, length, inl, inr, refl, sym, ap, ◌∙◌, subst, Some}
use Rattle.std.specs.Prelude.{replicate, slice_get}
use Rattle.wy_syntax.specs.declared.items.TypeDecl as tree
use Rattle.wy_text.specs.Members.{In}
use Rattle.wy_text.proofs.Lists.{In-cases, In-slice_get, In-unmap}
use Rattle.wy_types.specs.declared.types.Method.{Method}
use Rattle.wy_types.specs.declared.types.TypeRef.{TypeRef}
use Rattle.wy_types.specs.declared.types.TypeRef.TheVariants.{Int, Bool, Text, Unit as Nothing}
use Rattle.wy_types.specs.declared.resolved.TypeDecl.{TypeDecl}
use Rattle.wy_types.specs.Primitive.{console, folder, clock, random, full_folder, unnamed, former_types, primitive_types}
use Rattle.wy_types.specs.Program.{Program}
use Rattle.wy_types.specs.Signature.{Signature}
use Rattle.wy_types.specs.Types.{signature}
use Rattle.wy_rules.specs.Transfer.{NamesNot, DiffersAt}
use Rattle.wy_symbols.specs.declared.scoping.Head.{Head}
use Rattle.wy_symbols.specs.Atoms.{head_names, type_number}
use Rattle.wy_symbols.specs.TypeUses.{declaration, declarations_over}
use Rattle.wy_editions.proofs.HeadsOver.{IsOld}
use Rattle.wy_editions.proofs.TypeNames.{DeclHas, DeclsHave}
use Rattle.wy_editions.proofs.TypesLeft.{methods_not}

-- each old name finds another type
abbrev FindsNot : List Head → Type 0
FindsNot h = (x : List ℕ) → IsOld x → (d : ℕ) → type_number (head_names h) x ≡ Some d → d ≡ 4 → ⊥

------------------------------------------------------------
-- Methods

abbrev SignatureNot : Signature TypeRef → Type 0
SignatureNot m = (t : TypeRef) → In t (m.params ++ m.result ∷ []) → NamesNot 4 t

abbrev MethodsNot : List Method → Type 0
MethodsNot ms = (m : Signature TypeRef) → In m (map signature ms) → SignatureNot m

abbrev DeclarationNot : TypeDecl → Type 0
DeclarationNot a = MethodsNot a.methods

abbrev DeclarationsNot : List TypeDecl → Type 0
DeclarationsNot ds = (a : TypeDecl) → In a ds → DeclarationNot a

texts_not : (n : ℕ) (result : TypeRef) → NamesNot 4 result → (t : TypeRef) → In t (replicate n Text ++ result ∷ []) → NamesNot 4 t
texts_not zero result h t (inl e) = subst (NamesNot 4) e h
texts_not zero result h t (inr j) = absurd j
texts_not (suc n) result h t (inl e) = subst (NamesNot 4) e tt
texts_not (suc n) result h t (inr j) = texts_not n result h t j

------------------------------------------------------------
-- The primitive types, whose methods name base types alone

abbrev EachMethodNot : List Method → Type 0
EachMethodNot [] = Unit {0}
EachMethodNot (m ∷ ms) = SignatureNot (signature m) × EachMethodNot ms

method_not : (ms : List Method) → EachMethodNot ms → MethodsNot ms
method_not [] h m j = absurd j
method_not (n ∷ ms) h m (inl e) = subst SignatureNot e h.0
method_not (n ∷ ms) h m (inr j) = method_not ms h.1 m j

abbrev TableNot : List TypeDecl → Type 0
TableNot [] = Unit {0}
TableNot (a ∷ ds) = EachMethodNot a.methods × TableNot ds

table_not : (ds : List TypeDecl) → TableNot ds → DeclarationsNot ds
table_not [] h a j = absurd j
table_not (b ∷ ds) h a (inl e) = subst DeclarationNot e (method_not b.methods h.0)
table_not (b ∷ ds) h a (inr j) = table_not ds h.1 a j

console_not : EachMethodNot console.methods
console_not = (texts_not 0 Text tt, (texts_not 1 Nothing tt, tt))

folder_not : EachMethodNot folder.methods
folder_not = (texts_not 1 Text tt, (texts_not 1 Bool tt, (texts_not 2 Nothing tt, (texts_not 2 Nothing tt, (texts_not 0 Text tt, tt)))))

full_folder_not : EachMethodNot full_folder.methods
full_folder_not =
    (texts_not 1 Text tt, (texts_not 1 Bool tt, (texts_not 2 Nothing tt, (texts_not 2 Nothing tt, (texts_not 0 Text tt, (texts_not 1 Nothing tt, tt))))))

number_not : EachMethodNot clock.methods
number_not = (texts_not 0 Int tt, tt)

former_not : DeclarationsNot former_types
former_not = table_not former_types (console_not, (folder_not, (number_not, (number_not, (tt, tt)))))

today_not : DeclarationsNot primitive_types
today_not = table_not primitive_types (console_not, (folder_not, (number_not, (number_not, (full_folder_not, tt)))))

------------------------------------------------------------
-- The declared types

declaration_has : (types : List tree.TypeDecl) → DeclsHave IsOld types → (d : tree.TypeDecl) → In d types → DeclHas IsOld d
declaration_has [] h d j = absurd j
declaration_has (c ∷ types) h d (inl e) = subst (DeclHas IsOld) e h.0
declaration_has (c ∷ types) h d (inr j) = declaration_has types h.1 d j

declared_not : (h : List Head) → FindsNot h → (types : List tree.TypeDecl) → DeclsHave IsOld types → DeclarationsNot (map (declaration h) types)
declared_not h finds types ok a j =
    let r = In-unmap (declaration h) a types j in
    subst DeclarationNot r.2 (methods_not IsOld 4 h finds r.0 (declaration_has types ok r.0 r.1))

over_not : (table : List TypeDecl) → DeclarationsNot table → (h : List Head) → FindsNot h → (types : List tree.TypeDecl) → DeclsHave IsOld types →
    DeclarationsNot (declarations_over table h types)
over_not table f h finds types ok a j =
    elim (In-cases a table (map (declaration h) types) j) [ inl l ↦ f a l | inr r ↦ declared_not h finds types ok a r ]

------------------------------------------------------------
-- The tables, but for the fifth type

same_but : (a b c e x y : TypeDecl) (ds es : List TypeDecl) → ds ≡ es → (d : ℕ) → (d ≡ 4 → ⊥) →
    slice_get (a ∷ b ∷ c ∷ e ∷ x ∷ ds) d ≡ slice_get (a ∷ b ∷ c ∷ e ∷ y ∷ es) d
same_but a b c e x y ds es q zero n = refl
same_but a b c e x y ds es q (suc zero) n = refl
same_but a b c e x y ds es q (suc (suc zero)) n = refl
same_but a b c e x y ds es q (suc (suc (suc zero))) n = refl
same_but a b c e x y ds es q (suc (suc (suc (suc zero)))) n = absurd (n refl)
same_but a b c e x y ds es q (suc (suc (suc (suc (suc d))))) n = ap (λ (cs : List TypeDecl). slice_get cs d) q

same_count : (a b c e x y : TypeDecl) (ds es : List TypeDecl) → ds ≡ es → length (a ∷ b ∷ c ∷ e ∷ x ∷ ds) ≡ length (a ∷ b ∷ c ∷ e ∷ y ∷ es)
same_count a b c e x y ds es q = ap (λ (cs : List TypeDecl). length (a ∷ b ∷ c ∷ e ∷ x ∷ cs)) q

------------------------------------------------------------
-- Programs over the tables

module _ (p other : Program) (hs gs : List Head) (types : List tree.TypeDecl) (scopes : p.scopes ≡ other.scopes)
    (former : p.declarations ≡ declarations_over former_types hs types) (today : other.declarations ≡ declarations_over primitive_types gs types)
    (same : map (declaration hs) types ≡ map (declaration gs) types) (ok : DeclsHave IsOld types) where
  declarations_same : (d : ℕ) → (d ≡ 4 → ⊥) → slice_get p.declarations d ≡ slice_get other.declarations d
  declarations_same d n =
      let e : slice_get (declarations_over former_types hs types) d ≡ slice_get (declarations_over primitive_types gs types) d =
      same_but console folder clock random unnamed full_folder (map (declaration hs) types) (map (declaration gs) types) same d n in
      let f : slice_get p.declarations d ≡ slice_get (declarations_over former_types hs types) d = ap (λ (ds : List TypeDecl). slice_get ds d) former in
      let g : slice_get other.declarations d ≡ slice_get (declarations_over primitive_types gs types) d = ap (λ (ds : List TypeDecl). slice_get ds d) today in
      f ∙ (e ∙ sym g)

  pub count_over : length p.declarations ≡ length other.declarations
  count_over =
      let e : length (declarations_over former_types hs types) ≡ length (declarations_over primitive_types gs types) =
      same_count console folder clock random unnamed full_folder (map (declaration hs) types) (map (declaration gs) types) same in
      ap (λ (ds : List TypeDecl). length ds) former ∙ (e ∙ sym (ap (λ (ds : List TypeDecl). length ds) today))

  pub differs_over : FindsNot hs → DiffersAt 4 p other
  differs_over finds = record {
    scopes = scopes;
    declarations = declarations_same;
    named_not = λ d a n e.
        over_not former_types former_not hs finds types ok a (subst (λ (ds : List TypeDecl). In a ds) former (In-slice_get p.declarations d a e));
  }

  pub differs_back : FindsNot gs → DiffersAt 4 other p
  differs_back finds = record {
    scopes = sym scopes;
    declarations = λ d n. sym (declarations_same d n);
    named_not = λ d a n e.
        over_not primitive_types today_not gs finds types ok a (subst (λ (ds : List TypeDecl). In a ds) today (In-slice_get other.declarations d a e));
  }
