-- A program that hands callbacks to unannotated code, with its annotated and plain derivations:
--
--  1  type Handler
--  2    effect Fire
--  3    def fire(t: String): {Fire} Unit
--  4  type Plug
--  5    effect Use
--  6    def keep(h: Handler[Fire = {Use}]): {Use} Unit
--  7    def go(): {Use} Unit
--  8  resource module app(disk: Folder): Handler
--  9    effect Fire = {disk.Append}
-- 10    def fire(t: String): {Fire} Unit = disk.append("f", t)
-- 11  plain module plug(first: Handler): Plug
-- 12    var h: Handler = first
-- 13    def keep(n: Handler): Unit
-- 14      h = n
-- 15    def go(): Unit = h.fire("go")
-- 16  program
-- 17    grant disk: Folder
-- 18    instance a = app(disk)
-- 19    import p = plug(a) at {a.Fire, disk.Append}
-- 20    run: {a.Fire, disk.Append}
-- 21      p.go()
-- 22      val n = new
-- 23        def fire(t: String): {disk.Append} Unit = disk.append("g", t)
-- 24      p.keep(n)
-- 25      p.go()
use Rattle.std.proofs.Common.{ℕ, List, [], ◌∷◌, refl, true, false, Some, None}
use Rattle.std.specs.Prelude.{codes, ◌++◌}
use Rattle.wy_effects.specs.Bounds.{by_member}
use Rattle.wy_effects.proofs.Ordering.{none_bounded}
use Rattle.wy_types.specs.declared.types.TypeRef.{TypeRef}
use Rattle.wy_types.specs.declared.types.TypeRef.TheVariants.{Bool, Text, Unit as Nothing, Named, At, Own}
use Rattle.wy_types.specs.declared.code.Binding.TheVariants as to
use Rattle.wy_types.specs.declared.resolved.TypeDecl.{TypeDecl}
use Rattle.wy_types.specs.declared.resolved.Origin.TheVariants.{Parameter, Grant, Instance, Import}
use Rattle.wy_types.specs.declared.resolved.OwnName.{OwnName}
use Rattle.wy_types.specs.declared.resolved.ScopeKind.TheVariants as kind
use Rattle.wy_types.specs.Code as code
use Rattle.wy_types.specs.Program.{Program, Scope}
use Rattle.wy_types.specs.Types.{methods_of}
use Rattle.wy_types.specs.Bounds.{bounds_of}
use Rattle.wy_rules.specs.Readings.{annotated_reading, plain_reading}
use Rattle.wy_rules.specs.Derivations.{T-Lit, T-Var, T-Call, T-New, T-Set, T-Sub, none, more, Result, T-Seq, T-Val, T-Body, T-Body-Init}
use Rattle.wy_rules.specs.Typing.{ScopeHolds}
use Rattle.wy_rules.specs.Acceptance.{Handed, HasMembers, IsArgument, RespectsBounds, EffectsBounded, IsHigherOrderSafe, IsPlainArgument, SealHolds, LineHolds, ScopeAccepted, Accepted}
use Rattle.wy_rules.proofs.Closed.{annotated_subtype, plain_subtype}
use Rattle.wy_rules.proofs.Each.{by_number, arguments_hold, members_hold, lines_hold}
use Rattle.wy_rules.proofs.Marks.{effects_are_within, is_safe_for}
use Rattle.wy_rules.proofs.Sources.{at, parameter, local, field, own_name, one, two, last, then, method, declaration, own, var_field, object, body, atoms_of, folder_atoms, folder, head, module_of, main_of, program}

abbrev pub handler_type : TypeDecl
handler_type = declaration (codes "Handler") (codes "Fire" ∷ []) (method (codes "fire") (Text ∷ []) (0 ∷ []) Nothing ∷ [])

abbrev pub plug_type : TypeDecl
plug_type =
    declaration (codes "Plug") (codes "Use" ∷ [])
    (method (codes "keep") (Named 5 ((0 ∷ []) ∷ []) ∷ []) (0 ∷ []) Nothing ∷ method (codes "go") [] (0 ∷ []) Nothing ∷ [])

abbrev pub app : Scope
app =
    module_of (head kind.Resource (at 8 17) (codes "app") (folder_atoms (codes "disk")) (own (at 8 21) (codes "disk") folder (Parameter true) ∷ []) 5 ((2 ∷ []) ∷ []))
    (object [] ∷ []) (at 8 1) [] code.none
    (body 0 (at 10 3) (method (codes "fire") (Text ∷ []) (2 ∷ []) Nothing)
    (last (code.Call (at 10 43) (own_name (at 10 38) 0) (codes "append") (two (code.Quoted (at 10 50) (codes "f")) (parameter (at 10 55) 0 0)))) ∷ [])

abbrev pub plug : Scope
plug =
    module_of (head kind.Plain (at 11 14) (codes "plug") [] (own (at 11 19) (codes "first") (Named 5 []) (Parameter false) ∷ []) 6 [])
    (object (var_field (at 12 7) (codes "h") (Named 5 []) ∷ []) ∷ []) (at 11 1) [] (one (own_name (at 12 20) 0))
    (body 0 (at 13 3) (method (codes "keep") (Named 5 [] ∷ []) [] Nothing) (last (code.Assign (at 14 5) (to.Field 0) (code.Plain (parameter (at 14 9) 0 0)))) ∷
    body 0 (at 15 3) (method (codes "go") [] [] Nothing) (last (code.Call (at 15 22) (field (at 15 20) 0) (codes "fire") (one (code.Quoted (at 15 27) (codes "go"))))) ∷ [])

abbrev pub go_call : ℕ → code.Expr
go_call line = code.Call (at line 7) (own_name (at line 5) 2) (codes "go") code.none

abbrev pub run_block : code.Block
run_block =
    then (go_call 21) (code.Val (at 22 9) 0 None (code.Plain (code.New (at 22 13) 1 code.none))
    (then (code.Call (at 24 7) (own_name (at 24 5) 2) (codes "keep") (one (local (at 24 12) 0))) (last (go_call 25))))

-- the program, with the bound of its import
abbrev pub main_at : List ℕ → Scope
main_at bound =
    main_of (folder_atoms (codes "disk") ++ atoms_of (codes "a") (codes "Fire" ∷ []))
    (own (at 17 9) (codes "disk") folder Grant ∷
    own (at 18 12) (codes "a") (Named 5 ((4 ∷ []) ∷ [])) (Instance 0 (0 ∷ [])) ∷
    own (at 19 10) (codes "p") (At 6 bound) (Import 1 (1 ∷ []) bound) ∷ [])
    (object [] ∷ []) (at 20 3) (2 ∷ 4 ∷ []) run_block
    (body 1 (at 23 7) (method (codes "fire") (Text ∷ []) (2 ∷ []) Nothing)
    (last (code.Call (at 23 54) (own_name (at 23 49) 0) (codes "append") (two (code.Quoted (at 23 61) (codes "g")) (parameter (at 23 66) 0 0)))) ∷ [])

abbrev pub plug_program : List ℕ → Program
plug_program bound = program (handler_type ∷ plug_type ∷ []) (app ∷ plug ∷ main_at bound ∷ [])

abbrev bound : List ℕ
bound = 2 ∷ 4 ∷ []

abbrev p : Program
p = plug_program bound

app_derives : ScopeHolds (annotated_reading p 0) app
app_derives = record {
  derivation = record {
    locals = [];
    start = T-Body-Init (at 8 1) none;
    bodies = T-Body (at 10 3) (Result (T-Call (at 10 43) (T-Var (at 10 38)) folder [] (more (T-Lit (at 10 50)) [] (more (T-Var (at 10 55)) [] none)))) (2 ∷ []) ∷ [];
  };
  derives = (
    (refl, tt, λ a i. by_member a i),
    ((refl, (_, refl, (refl, refl, refl), tt, refl, ((_, refl, refl, refl, refl), ((refl, refl, refl), tt)), refl, refl), λ a i. by_member a i), tt),
  );
}

-- the plain module: the callback is kept in a field and called from it, with no effects in sight
plug_derives : ScopeHolds (plain_reading p 1) plug
plug_derives = record {
  derivation = record {
    locals = [];
    start = T-Body-Init (at 11 1) (more (T-Var (at 12 20)) [] none);
    bodies =
        T-Body (at 13 3) (Result (T-Set (at 14 5) (T-Var (at 14 9)))) [] ∷
        T-Body (at 15 3) (Result (T-Call (at 15 22) (T-Var (at 15 20)) (Named 5 []) [] (more (T-Lit (at 15 27)) [] none))) [] ∷ [];
  };
  derives = (
    (refl, ((refl, refl, refl), tt), tt),
    (
      (refl, (_, refl, refl, (refl, refl, refl), refl), tt),
      ((refl, (_, refl, (refl, refl, refl), tt, refl, ((_, refl, refl, refl, refl), tt), refl, refl), tt), tt),
    ),
  );
}

-- the program: the literal's own type is handed to `keep` by T-Sub, at the bound of the import
main_derives : ScopeHolds (annotated_reading p 2) (main_at bound)
main_derives = record {
  derivation = record {
    locals = Own 1 ∷ [];
    start =
        T-Body (at 20 3)
        (T-Seq (at 21 7) (T-Call (at 21 7) (T-Var (at 21 5)) (At 6 bound) [] none) bound
        (T-Val (at 22 9) (T-New (at 22 13) none) (Own 1) []
        (T-Seq (at 24 7) (T-Call (at 24 7) (T-Var (at 24 5)) (At 6 bound) [] (more (T-Sub (at 24 12) (T-Var (at 24 12)) (Own 1) []) [] none)) bound
        (Result (T-Call (at 25 7) (T-Var (at 25 5)) (At 6 bound) [] none)) bound) bound) bound)
        bound;
    bodies = T-Body (at 23 7) (Result (T-Call (at 23 54) (T-Var (at 23 49)) folder [] (more (T-Lit (at 23 61)) [] (more (T-Var (at 23 66)) [] none)))) (2 ∷ []) ∷ [];
  };
  derives = (
    (
      refl,
      (
        refl,
        (_, refl, (refl, refl, refl), tt, refl, tt, refl, refl),
        (
          refl,
          refl,
          tt,
          (refl, tt, refl, refl),
          (
            refl,
            (
              _,
              refl,
              (refl, refl, refl),
              tt,
              refl,
              ((refl, (refl, refl, refl), annotated_subtype (methods_of p 2) ((Own 1, At 5 bound) ∷ (Text, Text) ∷ (Nothing, Nothing) ∷ []) (Own 1) (At 5 bound) refl refl, λ a i. i), tt),
              refl,
              refl,
            ),
            (_, refl, (refl, refl, refl), tt, refl, tt, refl, refl),
            refl,
          ),
          refl,
        ),
        refl,
      ),
      λ a i. by_member a i,
    ),
    ((refl, (_, refl, (refl, refl, refl), tt, refl, ((_, refl, refl, refl, refl), ((refl, refl, refl), tt)), refl, refl), λ a i. by_member a i), tt),
  );
}

app_sealed : SealHolds (annotated_reading p 0) app (Some 5)
app_sealed = annotated_subtype (methods_of p 0) ((Own 0, Named 5 ((2 ∷ []) ∷ [])) ∷ (Text, Text) ∷ (Nothing, Nothing) ∷ []) (Own 0) (Named 5 ((2 ∷ []) ∷ [])) refl refl

-- M-Ascribe of the plain module, without effects
plug_sealed : SealHolds (plain_reading p 1) plug (Some 6)
plug_sealed = plain_subtype (methods_of p 1) ((Own 0, Named 6 []) ∷ (Named 5 [], Named 5 []) ∷ (Text, Text) ∷ (Nothing, Nothing) ∷ []) (Own 0) (Named 6 []) refl refl

abbrev names : List OwnName
names = (main_at bound).names

abbrev handed_disk : Handed
handed_disk = record { parameter = own (at 8 21) (codes "disk") folder (Parameter true); argument = 0 }

pub app_line : (bound : List ℕ) → LineHolds (plug_program bound) 2 (main_at bound).names (Instance 0 (0 ∷ []))
app_line bound = record {
  resource = (app, refl, refl);
  numbers = refl;
  members = arguments_hold (plug_program bound) 2 (main_at bound).names (HasMembers (plug_program bound) 2 (main_at bound).names) 0 (0 ∷ []) (members_hold (plug_program bound) 2 (main_at bound).names handed_disk ((_, refl), ((_, refl), ((_, refl), ((_, refl), tt)))), tt);
  types = arguments_hold (plug_program bound) 2 (main_at bound).names (IsArgument (plug_program bound) 2 (main_at bound).names ((0 ∷ []) ∷ (1 ∷ []) ∷ (2 ∷ []) ∷ (3 ∷ []) ∷ [])) 0 (0 ∷ [])
      (annotated_subtype (methods_of (plug_program bound) 2) ((folder, folder) ∷ (Text, Text) ∷ (Bool, Bool) ∷ (Nothing, Nothing) ∷ []) folder folder refl refl, tt);
  bounds = arguments_hold (plug_program bound) 2 (main_at bound).names (RespectsBounds (plug_program bound) 2 (main_at bound).names) 0 (0 ∷ []) (λ a b e. absurd (none_bounded 4 a b e), tt);
}

abbrev handler : TypeRef
handler = Named 5 ((4 ∷ []) ∷ [])

-- I-Import: the handler's one effect is in the bound, it hands nothing on, and without effects it is a handler
plug_line : LineHolds p 2 names (Import 1 (1 ∷ []) bound)
plug_line = (
  record { plain = (plug, refl, refl); numbers = refl },
  record {
    effects = arguments_hold p 2 names (EffectsBounded p 2 names bound) 1 (1 ∷ [])
        (effects_are_within (methods_of p 2) (bounds_of p 2) ((handler, true) ∷ (Text, false) ∷ (Nothing, true) ∷ []) handler true bound refl refl refl, tt);
    safe = arguments_hold p 2 names (IsHigherOrderSafe p 2 names bound) 1 (1 ∷ [])
        (is_safe_for (methods_of p 2) (bounds_of p 2) ((handler, true) ∷ (Text, false) ∷ (Nothing, true) ∷ []) handler false bound refl refl refl, tt);
    types = arguments_hold p 2 names (IsPlainArgument p 2 names) 1 (1 ∷ [])
        (plain_subtype (methods_of p 2) ((Named 5 [], Named 5 []) ∷ (Text, Text) ∷ (Nothing, Nothing) ∷ []) (Named 5 []) (Named 5 []) refl refl, tt);
    module_holds = (plug, refl, plug_derives);
  },
)

plug_accepted : Accepted p
plug_accepted = record {
  scopes = by_number (ScopeAccepted p) p.scopes (
    record { pure = tt; bodies = app_derives; seal = (app_sealed, λ a b e. absurd (none_bounded 1 a b e)); lines = lines_hold p 0 app.names (tt, tt) },
    (
      record { pure = tt; bodies = plug_derives; seal = (plug_sealed, tt); lines = lines_hold p 1 plug.names (tt, tt) },
      (record { pure = tt; bodies = main_derives; seal = (tt, tt); lines = lines_hold p 2 names (tt, (app_line bound, (plug_line, tt))) }, tt),
    ),
  );
}
