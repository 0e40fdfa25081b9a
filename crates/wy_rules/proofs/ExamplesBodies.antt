-- Bodies that do what their declared effect lacks: the first failing node, its premise and the atom.
--
-- In the logger's module, with `{}` for `{Log}` in line 6:
--
-- 6    def log(t: String): {} Unit = disk.append("log", t)
--
-- In its program, with `run: {}` in line 4. And in a module with two parameters, where the effect names the other one:
--
-- 1  type Two
-- 2    effect E
-- 3    def f(): {E} Unit
-- 4  resource module two(p: Two, q: Two): Two
-- 5    effect E = {p.E}
-- 6    def f(): {E} Unit = q.f()
use Rattle.std.proofs.Common.{ℕ, List, [], ◌∷◌, refl, inl, inr, true, Some, None}
use Rattle.std.specs.Prelude.{codes, ◌++◌}
use Rattle.wy_text.specs.declared.fault.Fault.{Fault}
use Rattle.wy_text.specs.declared.fault.RuleName.TheVariants.{TBody}
use Rattle.wy_effects.specs.AtomTable.{atom_name}
use Rattle.wy_text.specs.Members.{In}
use Rattle.wy_effects.specs.Bounds.{by_member}
use Rattle.wy_effects.proofs.Ordering.{none_bounded}
use Rattle.wy_types.specs.declared.types.TypeRef.{TypeRef}
use Rattle.wy_types.specs.declared.types.TypeRef.TheVariants.{Bool, Text, Unit as Nothing, Named}
use Rattle.wy_types.specs.declared.resolved.TypeDecl.{TypeDecl}
use Rattle.wy_types.specs.declared.resolved.Origin.TheVariants.{Parameter}
use Rattle.wy_types.specs.declared.resolved.ScopeKind.TheVariants as kind
use Rattle.wy_types.specs.Code as code
use Rattle.wy_types.specs.Program.{Program, Scope}
use Rattle.wy_types.specs.Types.{methods_of}
use Rattle.wy_rules.specs.Readings.{IsBelow, annotated_reading}
use Rattle.wy_rules.specs.Derivations.{none}
use Rattle.wy_rules.specs.Failing.{IsLeast, IsLeastAt, IsScopeFault}
use Rattle.wy_rules.proofs.Closed.{annotated_subtype}
use Rattle.wy_rules.proofs.ExamplesLogger.{append_call, logger_with, log_call, main_with, logger_program}
use Rattle.wy_rules.proofs.Lawfulness.{annotated_lawful, body_refused, one_missing}
use Rattle.wy_rules.proofs.Least.{at_type, name_least, text_least, no_values, more_values, call_least, last_least}
use Rattle.wy_rules.proofs.Sources.{at, own_name, last, method, declaration, own, object, body, atoms_of, folder, head, module_of, idle, program}

------------------------------------------------------------
-- The logger's module

abbrev p : Program
p = logger_program [] (4 ∷ [])

abbrev s : Scope
s = logger_with []

folder_itself : IsBelow (annotated_reading p 0) folder folder
folder_itself = annotated_subtype (methods_of p 0) ((folder, folder) ∷ (Text, Text) ∷ (Bool, Bool) ∷ (Nothing, Nothing) ∷ []) folder folder refl refl

base_itself : (q : Program) (k : ℕ) → IsBelow (annotated_reading q k) Text Text × IsBelow (annotated_reading q k) Nothing Nothing
base_itself q k = (annotated_subtype (methods_of q k) ((Text, Text) ∷ []) Text Text refl refl, annotated_subtype (methods_of q k) ((Nothing, Nothing) ∷ []) Nothing Nothing refl refl)

append_least : IsLeast (annotated_reading p 0) s [] (Some 0) (code.Plain append_call) Nothing (2 ∷ [])
append_least =
    let y = annotated_reading p 0 in
    let w = annotated_lawful p 0 in
    let receiver = name_least y w s [] (Some 0) _ _ folder refl folder_itself in
    let text = at_type y w s [] (Some 0) _ Text Text [] (text_least y w s [] (Some 0) _ _ (base_itself p 0).0) (inl refl) in
    let t = at_type y w s [] (Some 0) _ Text Text [] (name_least y w s [] (Some 0) _ _ Text refl (base_itself p 0).0) (inl refl) in
    let args = more_values y w s [] (Some 0) _ _ Text _ [] [] text (more_values y w s [] (Some 0) _ _ Text [] [] [] t (no_values y w s [] (Some 0))) in
    call_least y w s [] (Some 0) _ _ _ _ folder [] _ [] receiver tt refl args (base_itself p 0).1

-- a statement that is the whole of a body, and the fault of a body that lacks an effect
abbrev pub lacks : ℕ → ℕ → ℕ → List ℕ → List ℕ → Fault
lacks file line column owner member = record { place = record { file = file; line = line; column = column }; rule = TBody; premise = 2; atom = Some (atom_name owner member) }

logger_body : IsLeastAt (annotated_reading p 0) s [] (Some 0) (last append_call) Nothing (2 ∷ [])
logger_body =
    let y = annotated_reading p 0 in
    last_least y (annotated_lawful p 0) s [] (Some 0) _ Nothing (2 ∷ []) (at_type y (annotated_lawful p 0) s [] (Some 0) _ Nothing Nothing (2 ∷ []) append_least (inl refl))

-- line 6, column 3: T-Body, premise 2, disk.Append
pub logger_refused : IsScopeFault p 0 s (lacks 1 6 3 (codes "disk") (codes "Append"))
logger_refused = record {
  locals = [];
  first =
      inr (
        record { expected = None; spot = refl; stands = ([], record { derivations = none; derives = tt; effects = refl }, λ a i. by_member a i); settles = tt },
        inr (
          record { expected = None; spot = refl; stands = record { typ = Nothing; effect = 2 ∷ []; has = append_least.has }; settles = tt },
          inl (record {
            expected = None;
            atom = Some 2;
            spot = refl;
            stands_not = body_refused p 0 s [] (Some 0) (last append_call) Nothing [] (2 ∷ []) 2 logger_body (one_missing p 0 (none_bounded 4) 2 [] (λ i. i));
            premise = inr (2 ∷ [], 2, logger_body, one_missing p 0 (none_bounded 4) 2 [] (λ i. i), refl, refl);
            place = refl;
            rule = refl;
            lacks = refl;
          }),
        ),
      );
}

------------------------------------------------------------
-- The logger's program

abbrev q : Program
q = logger_program (2 ∷ []) []

abbrev main : Scope
main = main_with []

abbrev logger_at : TypeRef
logger_at = Named 5 ((4 ∷ []) ∷ [])

logger_itself : IsBelow (annotated_reading q 1) logger_at logger_at
logger_itself = annotated_subtype (methods_of q 1) ((logger_at, logger_at) ∷ (Text, Text) ∷ (Nothing, Nothing) ∷ []) logger_at logger_at refl refl

log_least : IsLeast (annotated_reading q 1) main [] None (code.Plain log_call) Nothing (4 ∷ [])
log_least =
    let y = annotated_reading q 1 in
    let w = annotated_lawful q 1 in
    let receiver = name_least y w main [] None _ _ logger_at refl logger_itself in
    let text = at_type y w main [] None _ Text Text [] (text_least y w main [] None _ _ (base_itself q 1).0) (inl refl) in
    call_least y w main [] None _ _ _ _ logger_at [] _ [] receiver tt refl (more_values y w main [] None _ _ Text _ [] [] text (no_values y w main [] None)) (base_itself q 1).1

main_body : IsLeastAt (annotated_reading q 1) main [] None (last log_call) Nothing (4 ∷ [])
main_body =
    let y = annotated_reading q 1 in
    last_least y (annotated_lawful q 1) main [] None _ Nothing (4 ∷ []) (at_type y (annotated_lawful q 1) main [] None _ Nothing Nothing (4 ∷ []) log_least (inl refl))

-- the second file's line 4, column 3: T-Body, premise 2, lg.Log
pub main_refused : IsScopeFault q 1 main (lacks 2 4 3 (codes "lg") (codes "Log"))
main_refused = record {
  locals = [];
  first =
      inr (
        record { expected = None; spot = refl; stands = record { typ = Nothing; effect = 4 ∷ []; has = log_least.has }; settles = tt },
        inl (record {
          expected = None;
          atom = Some 4;
          spot = refl;
          stands_not = body_refused q 1 main [] None (last log_call) Nothing [] (4 ∷ []) 4 main_body (one_missing q 1 (none_bounded 5) 4 [] (λ i. i));
          premise = inr (4 ∷ [], 4, main_body, one_missing q 1 (none_bounded 5) 4 [] (λ i. i), refl, refl);
          place = refl;
          rule = refl;
          lacks = refl;
        }),
      );
}

------------------------------------------------------------
-- Two parameters

abbrev two_type : TypeDecl
two_type = declaration (codes "Two") (codes "E" ∷ []) (method (codes "f") [] (0 ∷ []) Nothing ∷ [])

abbrev two_at : ℕ → TypeRef
two_at a = Named 5 ((a ∷ []) ∷ [])

abbrev f_call : code.Expr
f_call = code.Call (at 6 25) (own_name (at 6 23) 1) (codes "f") code.none

abbrev two : Scope
two =
    module_of (head kind.Resource (at 4 17) (codes "two") (atoms_of (codes "p") (codes "E" ∷ []) ++ atoms_of (codes "q") (codes "E" ∷ []))
    (own (at 4 21) (codes "p") (two_at 0) (Parameter true) ∷ own (at 4 29) (codes "q") (two_at 1) (Parameter true) ∷ []) 4 ((0 ∷ []) ∷ []))
    (object [] ∷ []) (at 4 1) [] code.none
    (body 0 (at 6 3) (method (codes "f") [] (0 ∷ []) Nothing) (last f_call) ∷ [])

abbrev r : Program
r = program (two_type ∷ []) (two ∷ idle ∷ [])

two_itself : IsBelow (annotated_reading r 0) (two_at 1) (two_at 1)
two_itself = annotated_subtype (methods_of r 0) ((two_at 1, two_at 1) ∷ (Nothing, Nothing) ∷ []) (two_at 1) (two_at 1) refl refl

f_least : IsLeast (annotated_reading r 0) two [] (Some 0) (code.Plain f_call) Nothing (1 ∷ [])
f_least =
    let y = annotated_reading r 0 in
    let w = annotated_lawful r 0 in
    call_least y w two [] (Some 0) _ _ _ _ (two_at 1) [] _ [] (name_least y w two [] (Some 0) _ _ (two_at 1) refl two_itself) tt refl (no_values y w two [] (Some 0)) (base_itself r 0).1

two_body : IsLeastAt (annotated_reading r 0) two [] (Some 0) (last f_call) Nothing (1 ∷ [])
two_body =
    let y = annotated_reading r 0 in
    last_least y (annotated_lawful r 0) two [] (Some 0) _ Nothing (1 ∷ []) (at_type y (annotated_lawful r 0) two [] (Some 0) _ Nothing Nothing (1 ∷ []) f_least (inl refl))

not_p : In {X = ℕ} 1 (0 ∷ []) → ⊥
not_p (inl e) = absurd (cc)
not_p (inr z) = z

-- line 6, column 3: T-Body, premise 2, q.E, though one instance may stand for both parameters
two_refused : IsScopeFault r 0 two (lacks 1 6 3 (codes "q") (codes "E"))
two_refused = record {
  locals = [];
  first =
      inr (
        record { expected = None; spot = refl; stands = ([], record { derivations = none; derives = tt; effects = refl }, λ a i. by_member a i); settles = tt },
        inr (
          record { expected = None; spot = refl; stands = record { typ = Nothing; effect = 1 ∷ []; has = f_least.has }; settles = tt },
          inl (record {
            expected = None;
            atom = Some 1;
            spot = refl;
            stands_not = body_refused r 0 two [] (Some 0) (last f_call) Nothing (0 ∷ []) (1 ∷ []) 1 two_body (one_missing r 0 (none_bounded 2) 1 (0 ∷ []) not_p);
            premise = inr (1 ∷ [], 1, two_body, one_missing r 0 (none_bounded 2) 1 (0 ∷ []) not_p, refl, refl);
            place = refl;
            rule = refl;
            lacks = refl;
          }),
        ),
      );
}
