-- A module that gives an object away, with its derivations and its seal:
--
--  1  type Item
--  2    effect Put
--  3    def put(t: String): {Put} Unit
--  4  type Maker
--  5    effect Put
--  6    def make(): {} Item[Put = {Put}]
--  7  resource module maker(disk: Folder): Maker
--  8    effect Put = {disk.Append}
--  9    def make(): {} Item[Put = {Put}]
-- 10      new
-- 11        def put(t: String): {Put} Unit = disk.append("i", t)
use Rattle.std.proofs.Common.{[], ◌∷◌, refl, true, Some}
use Rattle.std.specs.Prelude.{codes}
use Rattle.wy_effects.specs.Bounds.{by_member}
use Rattle.wy_types.specs.declared.types.TypeRef.{TypeRef}
use Rattle.wy_types.specs.declared.types.TypeRef.TheVariants.{Text, Unit as Nothing, Named, Own}
use Rattle.wy_types.specs.declared.resolved.Origin.TheVariants.{Parameter}
use Rattle.wy_types.specs.declared.resolved.ScopeKind.TheVariants as kind
use Rattle.wy_types.specs.Code as code
use Rattle.wy_types.specs.Program.{Program, Scope}
use Rattle.wy_types.specs.Types.{methods_of}
use Rattle.wy_rules.specs.Readings.{annotated_reading}
use Rattle.wy_rules.specs.Derivations.{T-Lit, T-Var, T-Call, T-New, T-Sub, none, more, Result, T-Body, T-Body-Init}
use Rattle.wy_rules.specs.Typing.{ScopeHolds}
use Rattle.wy_rules.specs.Acceptance.{SealHolds}
use Rattle.wy_rules.proofs.Closed.{annotated_subtype}
use Rattle.wy_rules.proofs.Sources.{at, parameter, own_name, two, last, method, declaration, own, object, body, folder_atoms, folder, head, module_of, idle, program}

abbrev item : TypeRef
item = Named 5 ((2 ∷ []) ∷ [])

abbrev maker : Scope
maker =
    module_of (head kind.Resource (at 7 17) (codes "maker") (folder_atoms (codes "disk")) (own (at 7 23) (codes "disk") folder (Parameter true) ∷ []) 6 ((2 ∷ []) ∷ []))
    (object [] ∷ object [] ∷ []) (at 7 1) [] code.none
    (body 0 (at 9 3) (method (codes "make") [] [] item) (last (code.New (at 10 5) 1 code.none)) ∷
    body 1 (at 11 7) (method (codes "put") (Text ∷ []) (2 ∷ []) Nothing)
    (last (code.Call (at 11 45) (own_name (at 11 40) 0) (codes "append") (two (code.Quoted (at 11 52) (codes "i")) (parameter (at 11 57) 1 0)))) ∷ [])

abbrev p : Program
p =
    program
    (declaration (codes "Item") (codes "Put" ∷ []) (method (codes "put") (Text ∷ []) (0 ∷ []) Nothing ∷ []) ∷
    declaration (codes "Maker") (codes "Put" ∷ []) (method (codes "make") [] [] (Named 5 ((0 ∷ []) ∷ [])) ∷ []) ∷ [])
    (maker ∷ idle ∷ [])

-- making the object has no effect; its method has
maker_derives : ScopeHolds (annotated_reading p 0) maker
maker_derives = record {
  derivation = record {
    locals = [];
    start = T-Body-Init (at 7 1) none;
    bodies =
        T-Body (at 9 3) (Result (T-Sub (at 10 5) (T-New (at 10 5) none) (Own 1) [])) [] ∷
        T-Body (at 11 7) (Result (T-Call (at 11 45) (T-Var (at 11 40)) folder [] (more (T-Lit (at 11 52)) [] (more (T-Var (at 11 57)) [] none)))) (2 ∷ []) ∷ [];
  };
  derives = (
    (refl, tt, λ a i. by_member a i),
    (
      (refl, (refl, (refl, tt, refl, refl), annotated_subtype (methods_of p 0) ((Own 1, item) ∷ (Text, Text) ∷ (Nothing, Nothing) ∷ []) (Own 1) item refl refl, λ a i. i), λ a i. by_member a i),
      ((refl, (_, refl, (refl, refl, refl), tt, refl, ((_, refl, refl, refl, refl), ((refl, refl, refl), tt)), refl, refl), λ a i. by_member a i), tt),
    ),
  );
}

maker_sealed : SealHolds (annotated_reading p 0) maker (Some 6)
maker_sealed =
    annotated_subtype (methods_of p 0) ((Own 0, Named 6 ((2 ∷ []) ∷ [])) ∷ (item, item) ∷ (Text, Text) ∷ (Nothing, Nothing) ∷ []) (Own 0) (Named 6 ((2 ∷ []) ∷ [])) refl refl
