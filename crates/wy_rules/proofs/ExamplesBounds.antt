-- Imports whose bound doesn't do. The kept callback under `at {disk.Append}`: the sealed atom `a.Fire` isn't in the bound, though it
-- stands for nothing else than the grant's atom. And an object that asks for a callback without effects:
--
--  1  type Handler
--  2    effect Fire
--  3    def fire(): {Fire} Unit
--  4  type Button
--  5    effect Push
--  6    def set(h: Handler[Fire = {}]): {Push} Unit
--  7  type Quiet
--  8  resource module button(): Button
--  9    effect Push = {}
-- 10    def set(h: Handler[Fire = {}]): {Push} Unit = h.fire()
-- 11  plain module wild(b: Button): Quiet
-- 12  program
-- 13    grant disk: Folder
-- 14    instance b = button()
-- 15    import w = wild(b) at {b.Push, disk.Write}
-- 16    run: {}
-- 17      ()
use Rattle.std.proofs.Common.{ℕ, ◌≤◌, List, [], ◌∷◌, refl, subst, inl, inr, true, false, Some, None, arith}
use Rattle.std.specs.Prelude.{codes, ◌++◌}
use Rattle.wy_text.specs.declared.fault.Fault.{Fault}
use Rattle.wy_text.specs.declared.fault.RuleName.TheVariants.{IImport}
use Rattle.wy_effects.specs.AtomTable.{atom_name}
use Rattle.wy_text.specs.Members.{In}
use Rattle.wy_effects.specs.Bounds.{IsUnder}
use Rattle.wy_types.specs.declared.types.TypeRef.{TypeRef}
use Rattle.wy_types.specs.declared.types.TypeRef.TheVariants.{Text, Unit as Nothing, Named, At}
use Rattle.wy_types.specs.declared.path.Part.TheVariants as part
use Rattle.wy_types.specs.declared.path.Step.{Step}
use Rattle.wy_types.specs.declared.resolved.TypeDecl.{TypeDecl}
use Rattle.wy_types.specs.declared.resolved.OwnName.{OwnName}
use Rattle.wy_types.specs.declared.resolved.Origin.TheVariants.{Parameter, Grant, Instance, Import}
use Rattle.wy_types.specs.declared.resolved.ScopeKind.TheVariants as kind
use Rattle.wy_types.specs.Code as code
use Rattle.wy_types.specs.Program.{Program, Scope}
use Rattle.wy_types.specs.Types.{methods_of, signature}
use Rattle.wy_types.specs.Paths.{Reaches, IsEffect}
use Rattle.wy_types.specs.Bounds.{bounds_of}
use Rattle.wy_effects.proofs.Ordering.{none_bounded, unbounded_under}
use Rattle.wy_rules.specs.Acceptance.{Handed, EffectsBounded, IsHigherOrderSafe}
use Rattle.wy_rules.specs.Failing.{LacksBelow, IsLineFault}
use Rattle.wy_rules.proofs.Each.{arguments_hold}
use Rattle.wy_rules.proofs.ExamplesPlug.{plug, main_at, plug_program, app_line}
use Rattle.wy_rules.proofs.Marks.{effects_are_within}
use Rattle.wy_rules.proofs.Sources.{at, parameter, last, method, declaration, own, object, body, atoms_of, folder_atoms, folder, head, module_of, main_of, program}

abbrev lacks : ℕ → ℕ → List ℕ → List ℕ → Fault
lacks line premise owner member = record { place = at line 10; rule = IImport; premise = premise; atom = Some (atom_name owner member) }

------------------------------------------------------------
-- A sealed atom

abbrev p : Program
p = plug_program (2 ∷ [])

abbrev names : List OwnName
names = (main_at (2 ∷ [])).names

abbrev handed_a : Handed
handed_a = record { parameter = own (at 11 19) (codes "first") (Named 5 []) (Parameter false); argument = 1 }

abbrev handler : TypeRef
handler = Named 5 ((4 ∷ []) ∷ [])

fires : IsEffect TypeRef (methods_of p 2) handler true 4
fires = (handler, ([], refl, refl), (signature (method (codes "fire") (Text ∷ []) (4 ∷ []) Nothing), inl refl, inl refl))

not_bounded : IsUnder (bounds_of p 2) (2 ∷ []) 4 → ⊥
not_bounded h = elim (unbounded_under (bounds_of p 2) (none_bounded 5) (2 ∷ []) 4 h) [ inl e ↦ absurd (omega (arith, e)) | inr z ↦ z ]

-- its effects are a.Fire alone
fires_alone : (b : ℕ) → IsEffect TypeRef (methods_of p 2) handler true b → 4 ≤ b
fires_alone b h =
    elim (unbounded_under (bounds_of p 2) (none_bounded 5) (4 ∷ []) b (effects_are_within (methods_of p 2) (bounds_of p 2) ((handler, true) ∷ (Text, false) ∷ (Nothing, true) ∷ []) handler true (4 ∷ []) refl refl refl b h)) [
      | inl e ↦ subst (λ v. 4 ≤ v) e (omega arith)
      | inr z ↦ absurd z
    ]

-- line 19, column 10: I-Import, premise 1, a.Fire
sealed_refused : IsLineFault p (lacks 19 1 (codes "a") (codes "Fire"))
sealed_refused =
    inr (
      tt,
      inr (
        tt,
        inl (
            inr (
              record { expected = None; spot = refl; stands = app_line (2 ∷ []); settles = tt },
              inr (
                record { expected = None; spot = refl; stands = record { plain = (plug, refl, refl); numbers = refl }; settles = tt },
                inl (record {
                  expected = None;
                  atom = Some 4;
                  spot = refl;
                  stands_not = λ h. not_bounded (h.effects handed_a (inl refl) 4 fires);
                  premise = inl (refl, inl (λ h. not_bounded (h 4 fires), (fires, not_bounded, λ b e n. fires_alone b e)));
                  place = refl;
                  rule = refl;
                  lacks = refl;
                }),
              ),
            )
            ),
      ),
    )

------------------------------------------------------------
-- A callback without effects

abbrev handler_type : TypeDecl
handler_type = declaration (codes "Handler") (codes "Fire" ∷ []) (method (codes "fire") [] (0 ∷ []) Nothing ∷ [])

abbrev button_type : TypeDecl
button_type = declaration (codes "Button") (codes "Push" ∷ []) (method (codes "set") (Named 5 ([] ∷ []) ∷ []) (0 ∷ []) Nothing ∷ [])

abbrev button : Scope
button =
    module_of (head kind.Resource (at 8 17) (codes "button") [] [] 6 ([] ∷ [])) (object [] ∷ []) (at 8 1) [] code.none
    (body 0 (at 10 3) (method (codes "set") (Named 5 ([] ∷ []) ∷ []) [] Nothing) (last (code.Call (at 10 51) (parameter (at 10 49) 0 0) (codes "fire") code.none)) ∷ [])

abbrev wild : Scope
wild = module_of (head kind.Plain (at 11 14) (codes "wild") [] (own (at 11 19) (codes "b") (Named 6 []) (Parameter false) ∷ []) 7 []) (object [] ∷ []) (at 11 1) [] code.none []

abbrev bound : List ℕ
bound = 1 ∷ 4 ∷ []

abbrev main : Scope
main =
    main_of (folder_atoms (codes "disk") ++ atoms_of (codes "b") (codes "Push" ∷ []))
    (own (at 13 9) (codes "disk") folder Grant ∷ own (at 14 12) (codes "b") (Named 6 ((4 ∷ []) ∷ [])) (Instance 0 []) ∷ own (at 15 10) (codes "w") (At 7 bound) (Import 1 (1 ∷ []) bound) ∷ [])
    [] (at 16 3) [] (last (code.Nothing (at 17 5))) []

abbrev q : Program
q = program (handler_type ∷ button_type ∷ declaration (codes "Quiet") [] [] ∷ []) (button ∷ wild ∷ main ∷ [])

abbrev handed_b : Handed
handed_b = record { parameter = own (at 11 19) (codes "b") (Named 6 []) (Parameter false); argument = 1 }

abbrev asked : TypeRef
asked = Named 6 ((4 ∷ []) ∷ [])

abbrev given : TypeRef
given = Named 5 ([] ∷ [])

-- one parameter is passed on the way to the callback
asks : Reaches TypeRef (methods_of q 2) asked false given
asks = (
  (let s : Step = record { method = codes "set"; part = part.Parameter 0 } in s ∷ []),
  (given, record { method = signature (method (codes "set") (given ∷ []) (4 ∷ []) Nothing); has = inl refl; named = refl; part = refl }, refl),
  refl,
)

asks_too_little : LacksBelow q 2 main.names bound handed_b 1
asks_too_little = (inl refl, (given, asks, (signature (method (codes "fire") [] [] Nothing), inl refl, unbounded_under (bounds_of q 2) (none_bounded 5) [] 1)))

-- the bound's least atom is that one
least_of_bound : (b : ℕ) → In b bound → 1 ≤ b
least_of_bound b (inl e) = subst (λ v. 1 ≤ v) e (omega arith)
least_of_bound b (inr (inl e)) = subst (λ v. 1 ≤ v) e (omega arith)
least_of_bound b (inr (inr z)) = absurd z

unsafe : IsHigherOrderSafe q 2 main.names bound handed_b → ⊥
unsafe h = unbounded_under (bounds_of q 2) (none_bounded 5) [] 1 (h given asks (signature (method (codes "fire") [] [] Nothing)) (inl refl) 1 (inl refl))

-- line 15, column 10: I-Import, premise 2, disk.Write
callback_refused : IsLineFault q (lacks 15 2 (codes "disk") (codes "Write"))
callback_refused =
    inr (
      tt,
      inr (
        tt,
        inl (
            inr (
              record {
                expected = None;
                spot = refl;
                stands = record { resource = (button, refl, refl); numbers = refl; members = λ h i. absurd i; types = λ h i. absurd i; bounds = λ h i. absurd i };
                settles = tt;
              },
              inr (
                record { expected = None; spot = refl; stands = record { plain = (wild, refl, refl); numbers = refl }; settles = tt },
                inl (record {
                  expected = None;
                  atom = Some 1;
                  spot = refl;
                  stands_not = λ h. unsafe (h.safe handed_b (inl refl));
                  premise = inr (
                    arguments_hold q 2 main.names (EffectsBounded q 2 main.names bound) 1 (1 ∷ [])
                        (effects_are_within (methods_of q 2) (bounds_of q 2) ((asked, true) ∷ (given, false) ∷ (Nothing, true) ∷ (Nothing, false) ∷ []) asked true bound refl refl refl, tt),
                    inl (refl, inl (unsafe, (asks_too_little, λ b l. least_of_bound b l.0))),
                  );
                  place = refl;
                  rule = refl;
                  lacks = refl;
                }),
              ),
            )
            ),
      ),
    )
