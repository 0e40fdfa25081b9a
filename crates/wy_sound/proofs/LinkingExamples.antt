-- Own names with their types, in a program with a grant, a used module, an instance that is handed the grant, and an import that is handed the instance
-- (`console.In` 0, `console.Out` 1, `log.Line` 2 in the program; `out.In` 0, `out.Out` 1 in the module `logger`); and in one whose instance has an atom with a
-- bound, which its ground set keeps.
use Rattle.std.proofs.Common.{◌≡◌, ℕ, zero, suc, List, [], ◌∷◌, ◌++◌, map, inl, inr, refl, sym, ◌∙◌, subst, arith, Option, Some, None, true, false}
use Rattle.std.specs.Prelude.{codes, slice_index_or}
use Rattle.wy_text.specs.declared.fault.Place.{Place}
use Rattle.wy_text.specs.Members.{In}
use Rattle.wy_effects.specs.EffSet.{IsSet, AreSets, has, replace}
use Rattle.wy_effects.specs.Bounds.{Bounds, by_member, IsWithin, Respects}
use Rattle.wy_effects.proofs.Ordering.{none_within}
use Rattle.wy_effects.proofs.SetLaws.{has-In}
use Rattle.wy_types.specs.declared.types.TypeRef.{TypeRef}
use Rattle.wy_types.specs.declared.types.TypeRef.TheVariants.{Named, At}
use Rattle.wy_types.specs.declared.linked.Actual.TheVariants as actual
use Rattle.wy_types.specs.declared.linked.Instance.{Instance as Started}
use Rattle.wy_types.specs.declared.resolved.TypeDecl.{TypeDecl}
use Rattle.wy_types.specs.declared.resolved.Origin.{Origin}
use Rattle.wy_types.specs.declared.resolved.Origin.TheVariants.{Parameter, Grant, Use, Instance, Import}
use Rattle.wy_types.specs.declared.resolved.OwnName.{OwnName}
use Rattle.wy_types.specs.declared.resolved.ScopeKind.{ScopeKind}
use Rattle.wy_types.specs.declared.resolved.ScopeKind.TheVariants.{Pure, Resource, Plain, Program as Main}
use Rattle.wy_types.specs.Code.{none}
use Rattle.wy_types.specs.Fitting.{FitsType}
use Rattle.wy_types.specs.Primitive.{primitive_types, primitive_type}
use Rattle.wy_types.specs.Program.{Program, Scope, Init}
use Rattle.wy_types.specs.Ground.{number_from, instance_of, program_sets, program_visited, start_list, visit, ground_of}
use Rattle.wy_rules.specs.GroundTypes as ground
use Rattle.wy_rules.specs.GroundTypes.{run_instances}
use Rattle.wy_sound.specs.Granted.{granted_count}
use Rattle.wy_sound.specs.GroundRange.{owns_among, IsOfRun}
use Rattle.wy_sound.specs.Grounds.{IsGround}
use Rattle.wy_rules.specs.OwnNames.{HaveTheirTypes, OwnNamesFit, LinesAreTyped, IsPlainName, HavePlainNames, GrantsStandFirst}

abbrev at : Place
at = record { file = 1; line = 1; column = 1 }

abbrev own : List ℕ → TypeRef → Origin → OwnName
own name typ origin = record { name = name; place = at; typ = typ; origin = origin }

-- a scope of a kind, as far as the bounds of its atoms, its own names, its seal and what it defines go
abbrev scope : ScopeKind → List ℕ → Bounds → List OwnName → Option ℕ → List (List ℕ) → Scope
scope kind name bounds names ascribed definitions = record {
  kind = kind;
  name = name;
  place = at;
  atoms = [];
  bounds = bounds;
  names = names;
  ascribed = ascribed;
  definitions = definitions;
  literals = [];
  start_place = at;
  start_effect = [];
  start = Init none;
  bodies = [];
}

-- the sets of two atoms
abbrev two : List (List ℕ)
two = (0 ∷ []) ∷ (1 ∷ []) ∷ []

abbrev log : TypeDecl
log = primitive_type (codes "Log") (codes "Line" ∷ []) []

abbrev plain_text : TypeDecl
plain_text = primitive_type (codes "Plain") [] []

-- a pure module, and one with a bare parameter that uses it, and defines `Line` as `{out.Out}`
abbrev format : Scope
format = scope Pure (codes "format") [] [] (Some 6) []

abbrev logger_names : List OwnName
logger_names = own (codes "out") (Named 0 two) (Parameter true) ∷ own (codes "format") (Named 6 []) (Use 0) ∷ []

abbrev logger : Scope
logger = scope Resource (codes "logger") (None ∷ None ∷ []) logger_names (Some 5) ((1 ∷ []) ∷ [])

-- a plain module, whose parameter's type is bare
abbrev plug : Scope
plug = scope Plain (codes "plug") [] (own (codes "l") (Named 5 []) (Parameter false) ∷ []) (Some 6) []

-- the program's own names, with the type of the import
abbrev main_names : TypeRef → List OwnName
main_names typ =
    own (codes "console") (Named 0 two) Grant ∷ own (codes "format") (Named 6 []) (Use 0) ∷
    own (codes "log") (Named 5 ((2 ∷ []) ∷ [])) (Instance 1 (0 ∷ [])) ∷ own (codes "p") typ (Import 2 (2 ∷ []) (2 ∷ [])) ∷ []

abbrev main : TypeRef → Scope
main typ = scope Main (codes "main") (None ∷ None ∷ None ∷ []) (main_names typ) None []

abbrev program : TypeRef → Program
program typ = record { declarations = primitive_types ++ log ∷ plain_text ∷ []; scopes = format ∷ logger ∷ plug ∷ main typ ∷ [] }

without : (byte : ℕ) (name : List ℕ) → has byte name ≡ false → In byte name → ⊥
without byte name e i = let f : false ≡ true = sym e ∙ has-In byte name i in cc

abbrev ArePlain : List OwnName → Type 0
ArePlain [] = Unit {0}
ArePlain (n ∷ ns) = (has 32 n.name ≡ false) × (has 46 n.name ≡ false) × ArePlain ns

plain : (ns : List OwnName) → ArePlain ns → (n : OwnName) → In n ns → IsPlainName n.name
plain [] h n i = absurd i
plain (m ∷ ns) h n (inl e) = subst (λ (v : OwnName). IsPlainName v.name) e (without 32 m.name h.0, without 46 m.name h.1)
plain (m ∷ ns) h n (inr i) = plain ns h.2 n i

two_are_sets : AreSets 2 two
two_are_sets s (inl e) = subst (IsSet 2) e (omega arith, omega arith, tt)
two_are_sets s (inr (inl e)) = subst (IsSet 2) e (omega arith, omega arith, tt)
two_are_sets s (inr (inr i)) = absurd i

format_fits : (typ : TypeRef) → OwnNamesFit (program typ) format
format_fits typ = record { may_have = refl; parameters = λ n i. absurd i; others = tt; bounds = refl }

logger_fits : (typ : TypeRef) → OwnNamesFit (program typ) logger
logger_fits typ = record {
  may_have = tt;
  parameters = λ n i. elim i [ inl e ↦ subst (λ (v : OwnName). FitsType (program typ) 2 0 v.typ) e (omega arith, inl refl, two_are_sets) | inr j ↦ absurd j ];
  others = ((refl, refl), tt);
  bounds = refl;
}

plug_fits : (typ : TypeRef) → OwnNamesFit (program typ) plug
plug_fits typ = record {
  may_have = tt;
  parameters = λ n i. elim i [ inl e ↦ subst (λ (v : OwnName). FitsType (program typ) 0 0 v.typ) e (omega arith, inr refl, λ s j. absurd j) | inr j ↦ absurd j ];
  others = tt;
  bounds = refl;
}

-- the import stands at its bound, of an atom that is opened before it
main_fits : OwnNamesFit (program (At 6 (2 ∷ []))) (main (At 6 (2 ∷ [])))
main_fits = record {
  may_have = refl;
  parameters = λ n i. absurd i;
  others = ((0, refl), ((refl, refl), (refl, (((omega arith, omega arith, tt), refl), tt))));
  bounds = refl;
}

lines_typed : LinesAreTyped (program (At 6 (2 ∷ [])))
lines_typed s (inl e) = subst (OwnNamesFit (program (At 6 (2 ∷ [])))) e (format_fits (At 6 (2 ∷ [])))
lines_typed s (inr (inl e)) = subst (OwnNamesFit (program (At 6 (2 ∷ [])))) e (logger_fits (At 6 (2 ∷ [])))
lines_typed s (inr (inr (inl e))) = subst (OwnNamesFit (program (At 6 (2 ∷ [])))) e (plug_fits (At 6 (2 ∷ [])))
lines_typed s (inr (inr (inr (inl e)))) = subst (OwnNamesFit (program (At 6 (2 ∷ [])))) e main_fits
lines_typed s (inr (inr (inr (inr i)))) = absurd i

-- an import at another set than its bound has not its type
at_other_bound : HaveTheirTypes (program (At 6 (1 ∷ []))) 0 (main_names (At 6 (1 ∷ []))) → ⊥
at_other_bound h = let same : At 6 (1 ∷ []) ≡ At 6 (2 ∷ []) = h.1.1.1.0.1 in cc

names_plain : (typ : TypeRef) → HavePlainNames (program typ)
names_plain typ s (inl e) = subst (λ (z : Scope). (n : OwnName) → In n z.names → IsPlainName n.name) e (plain [] tt)
names_plain typ s (inr (inl e)) =
    subst (λ (z : Scope). (n : OwnName) → In n z.names → IsPlainName n.name) e (plain logger_names (refl, refl, (refl, refl, tt)))
names_plain typ s (inr (inr (inl e))) = subst (λ (z : Scope). (n : OwnName) → In n z.names → IsPlainName n.name) e (plain plug.names (refl, refl, tt))
names_plain typ s (inr (inr (inr (inl e)))) =
    subst (λ (z : Scope). (n : OwnName) → In n z.names → IsPlainName n.name) e
    (plain (main_names typ) (refl, refl, (refl, refl, (refl, refl, (refl, refl, tt)))))
names_plain typ s (inr (inr (inr (inr i)))) = absurd i

-- grants stand first where a line follows them, and not where one follows a line
abbrev grant : OwnName
grant = own (codes "console") (Named 0 two) Grant

abbrev line : OwnName
line = own (codes "log") (Named 5 ((2 ∷ []) ∷ [])) (Instance 1 [])

grant_first : GrantsStandFirst (grant ∷ line ∷ [])
grant_first = ((λ m i e. refl), ((λ m i e. absurd i), tt))

grant_later : GrantsStandFirst (line ∷ grant ∷ []) → ⊥
grant_later h = let same : Instance 1 [] ≡ Grant = h.0 grant (inl refl) refl in cc

-- a line that had the name of a used module's instance would be taken for it; no own name is of this kind
taken_for_pure : number_from 0 (codes "pure " ++ codes "format") (instance_of (codes "pure format") 1 [] None [] ∷ []) ≡ Some 0
taken_for_pure = refl

no_such_name : (p : Program) → HavePlainNames p → (s : Scope) → In s p.scopes → (n : OwnName) → In n s.names → n.name ≡ codes "pure format" → ⊥
no_such_name p plain s among n i e = (plain s among n i).0 (subst (λ v. In 32 v) (sym e) (inr (inr (inr (inr (inl refl))))))

------------------------------------------------------------
-- Ground sets

abbrev imported : Program
imported = program (At 6 (2 ∷ []))

-- what stands for an own name of the program, as it has to be
abbrev GroundInMain : OwnName → ℕ → Type 0
GroundInMain n k = IsGround imported (program_sets imported) (main_names (At 6 (2 ∷ []))) n n.origin (slice_index_or (program_visited imported).actuals k (actual.Grant 0))

-- the grant's atoms are themselves
of_grant : GroundInMain (own (codes "console") (Named 0 two) Grant) 0
of_grant = refl

-- `log.Line` stands for what `Line` is in the module, `{out.Out}`, and that for `{console.Out}`
of_line : map (ground_of (program_sets imported)) ((2 ∷ []) ∷ []) ≡ (1 ∷ []) ∷ []
of_line = refl

of_instance : GroundInMain (own (codes "log") (Named 5 ((2 ∷ []) ∷ [])) (Instance 1 (0 ∷ []))) 2
of_instance = (
  instance_of (codes "log") 1 (actual.Grant 0 ∷ actual.Instance 0 ∷ []) None two,
  record { number = 1; is = refl; there = refl; of_module = refl },
  refl,
  ([], refl),
)

-- the import is handed the instance, whose type has no bare parameter, and has the ground of its bound
of_import : GroundInMain (own (codes "p") (At 6 (2 ∷ [])) (Import 2 (2 ∷ []) (2 ∷ []))) 3
of_import = (
  instance_of (codes "p") 2 (actual.Instance 1 ∷ []) (Some (1 ∷ [])) [],
  record { number = 2; is = refl; there = refl; of_module = refl },
  ([], refl),
  refl,
)

-- a visit that may go through one scope more is the same
goes_through_all :
    visit imported 5 (main_names (At 6 (2 ∷ []))) [] (main_names (At 6 (2 ∷ []))) (record { started = []; actuals = []; sets = [] }) ≡ program_visited imported
goes_through_all = refl

-- of the types of its run, declared types with a set for each member are such, and no own type of a literal, since its modules have none here
of_run : IsOfRun imported (ground.Named 0 two)
of_run = (omega arith, inl refl, λ s i. two_in_range s i)
  where
    two_in_range : AreSets 512 two
    two_in_range s (inl e) = subst (IsSet 512) e (omega arith, omega arith, tt)
    two_in_range s (inr (inl e)) = subst (IsSet 512) e (omega arith, omega arith, tt)
    two_in_range s (inr (inr i)) = absurd i

not_of_run : IsOfRun imported (ground.Own 0 1) → ⊥
not_of_run h = absurd (omega (arith, h))

no_own_types : owns_among imported (run_instances imported) ≡ 0
no_own_types = refl

------------------------------------------------------------
-- Bounds: a type with a member `Find <= {Read}`, a module of that type, and one that is handed its instance
-- (`disk.Read` 0, `disk.Write` 1, `disk.Append` 2, `disk.List` 3, `i.Read` 4, `i.Find` 5, `r.Line` 6 in the program)

abbrev store : TypeDecl
store = record { name = codes "Store"; members = codes "Read" ∷ codes "Find" ∷ []; bounds = None ∷ Some (0 ∷ []) ∷ []; defined = []; methods = [] }

abbrev four : List (List ℕ)
four = (0 ∷ []) ∷ (1 ∷ []) ∷ (2 ∷ []) ∷ (3 ∷ []) ∷ []

abbrev unbounded : Bounds
unbounded = None ∷ None ∷ None ∷ None ∷ []

-- `Read = {disk.Read, disk.List}` and `Find = {disk.List}`
abbrev index : Scope
index = scope Resource (codes "index") unbounded (own (codes "disk") (Named 1 four) (Parameter true) ∷ []) (Some 5) ((0 ∷ 3 ∷ []) ∷ (3 ∷ []) ∷ [])

-- `s.Find`, its atom 1, has the bound `{s.Read}`
abbrev find_bounded : Bounds
find_bounded = None ∷ Some (0 ∷ []) ∷ []

abbrev reader : Bounds → Scope
reader bounds = scope Resource (codes "reader") bounds (own (codes "s") (Named 5 two) (Parameter true) ∷ []) (Some 6) ((0 ∷ []) ∷ [])

abbrev stores_names : List OwnName
stores_names =
    own (codes "disk") (Named 1 four) Grant ∷ own (codes "i") (Named 5 ((4 ∷ []) ∷ (5 ∷ []) ∷ [])) (Instance 0 (0 ∷ [])) ∷
    own (codes "r") (Named 6 ((6 ∷ []) ∷ [])) (Instance 1 (1 ∷ [])) ∷ []

abbrev stores_main : Scope
stores_main = scope Main (codes "main") (unbounded ++ None ∷ Some (4 ∷ []) ∷ None ∷ []) stores_names None []

abbrev stores : Program
stores = record { declarations = primitive_types ++ store ∷ log ∷ []; scopes = index ∷ reader find_bounded ∷ stores_main ∷ [] }

four_are_sets : AreSets 4 four
four_are_sets s (inl e) = subst (IsSet 4) e (omega arith, omega arith, tt)
four_are_sets s (inr (inl e)) = subst (IsSet 4) e (omega arith, omega arith, tt)
four_are_sets s (inr (inr (inl e))) = subst (IsSet 4) e (omega arith, omega arith, tt)
four_are_sets s (inr (inr (inr (inl e)))) = subst (IsSet 4) e (omega arith, omega arith, tt)
four_are_sets s (inr (inr (inr (inr i)))) = absurd i

index_fits : OwnNamesFit stores index
index_fits = record {
  may_have = tt;
  parameters = λ n i. elim i [ inl e ↦ subst (λ (v : OwnName). FitsType stores 4 0 v.typ) e (omega arith, inl refl, four_are_sets) | inr j ↦ absurd j ];
  others = tt;
  bounds = refl;
}

reader_fits : OwnNamesFit stores (reader find_bounded)
reader_fits = record {
  may_have = tt;
  parameters = λ n i. elim i [ inl e ↦ subst (λ (v : OwnName). FitsType stores 2 0 v.typ) e (omega arith, inl refl, two_are_sets) | inr j ↦ absurd j ];
  others = tt;
  bounds = refl;
}

-- without the bound of its parameter's member it is not what resolving makes
abbrev not_bounded : Bounds
not_bounded = None ∷ None ∷ []

bound_left_out : OwnNamesFit stores (reader not_bounded) → ⊥
bound_left_out h = let same : not_bounded ≡ find_bounded = h.bounds in cc

-- in the program `i.Find` has the bound `{i.Read}`
stores_main_fits : OwnNamesFit stores stores_main
stores_main_fits = record { may_have = refl; parameters = λ n i. absurd i; others = ((1, refl), (refl, (refl, tt))); bounds = refl }

stores_typed : LinesAreTyped stores
stores_typed s (inl e) = subst (OwnNamesFit stores) e index_fits
stores_typed s (inr (inl e)) = subst (OwnNamesFit stores) e reader_fits
stores_typed s (inr (inr (inl e))) = subst (OwnNamesFit stores) e stores_main_fits
stores_typed s (inr (inr (inr i))) = absurd i

-- for `s.Read` stand `{disk.Read, disk.List}`, and for `s.Find` `{disk.List}`
abbrev found : List (List ℕ)
found = (0 ∷ 3 ∷ []) ∷ (3 ∷ []) ∷ []

of_reader : map (λ (i : Started). i.ground) (start_list stores) ≡ four ∷ found ∷ []
of_reader = refl

-- which is within what stands for its bound
bound_kept : Respects find_bounded [] found
bound_kept zero b e = absurd (cc)
bound_kept (suc zero) b e =
    let same : 0 ∷ [] ≡ b = cc in
    subst (λ s. IsWithin [] (3 ∷ []) (replace found s)) same (λ x i. elim i [ inl f ↦ by_member x (inr (inl f)) | inr j ↦ absurd j ])
bound_kept (suc (suc a)) b e = absurd (cc)

-- `{disk.Write}` would not be
bound_not_kept : Respects find_bounded [] ((0 ∷ 3 ∷ []) ∷ (1 ∷ []) ∷ []) → ⊥
bound_not_kept h = without 1 (0 ∷ 3 ∷ []) refl (none_within (1 ∷ []) (0 ∷ 3 ∷ []) (h 1 (0 ∷ []) refl) 1 (inl refl))

------------------------------------------------------------
-- Atoms of grants

-- the first atoms are the grant's, and no ground set has another
granted_are : granted_count imported ≡ 2
granted_are = refl

ground_is_granted : map (λ (i : Started). i.ground) (start_list imported) ≡ [] ∷ two ∷ [] ∷ []
ground_is_granted = refl

-- where a grant stood behind a line, one of its atoms would have no name in the report
abbrev late : Program
late = record {
  declarations = primitive_types ++ log ∷ [];
  scopes =
      scope Resource (codes "quiet") [] [] (Some 5) ([] ∷ []) ∷
      scope Main (codes "main") [] (own (codes "log") (Named 5 ((0 ∷ []) ∷ [])) (Instance 0 []) ∷ grant ∷ []) None [] ∷ [];
}

late_sets : program_sets late ≡ [] ∷ (1 ∷ []) ∷ (2 ∷ []) ∷ []
late_sets = refl

late_is_none : AreSets (granted_count late) (program_sets late) → ⊥
late_is_none h = let s : IsSet 2 (2 ∷ []) = h (2 ∷ []) (inr (inr (inl refl))) in absurd (omega (arith, s.1))
