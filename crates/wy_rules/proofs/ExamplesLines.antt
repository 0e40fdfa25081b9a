-- Lines that are refused, by each premise of their rules:
--
-- type E
-- type L
--   effect Log
--   def log(): {Log} Unit
-- type W
--   effect Tick
--   def now(): {Tick} Bool
-- module p: E
-- resource module log(l: L): E
-- resource module wait(w: W): E
-- plain module plug(w: W): E
-- program
--   grant clock: Clock
--   LINE
use Rattle.std.proofs.Common.{◌≡◌, ℕ, List, [], ◌∷◌, refl, sym, subst, ◌∙◌, inl, inr, true, false, Some, None, Option, arith}
use Rattle.std.specs.Prelude.{codes, slice_get}
use Rattle.wy_text.specs.declared.fault.Fault.{Fault}
use Rattle.wy_text.specs.declared.fault.RuleName.{RuleName}
use Rattle.wy_text.specs.declared.fault.RuleName.TheVariants.{MUse, MInst, MImport, IImport}
use Rattle.wy_text.specs.Members.{In}
use Rattle.wy_types.specs.declared.types.TypeRef.{TypeRef}
use Rattle.wy_types.specs.declared.types.TypeRef.TheVariants.{Int, Bool, Unit as Nothing, Named, At}
use Rattle.wy_types.specs.declared.types.Method.{Method}
use Rattle.wy_types.specs.declared.resolved.OwnName.{OwnName}
use Rattle.wy_types.specs.declared.resolved.ScopeKind.{ScopeKind}
use Rattle.wy_types.specs.declared.resolved.ScopeKind.TheVariants as kind
use Rattle.wy_types.specs.declared.resolved.Origin.{Origin}
use Rattle.wy_types.specs.declared.resolved.Origin.TheVariants.{Parameter, Grant, Use, Instance, Import}
use Rattle.wy_types.specs.Code as code
use Rattle.wy_types.specs.Program.{Program, Scope}
use Rattle.wy_types.specs.Types.{methods_of, signature}
use Rattle.wy_types.specs.Subtyping.{IsAnnotatedSubtype, IsPlainSubtype}
use Rattle.wy_types.specs.Bounds.{bounds_of}
use Rattle.wy_rules.specs.Acceptance.{Handed, IsOfKind, HasMembers, EffectsBounded, IsHigherOrderSafe}
use Rattle.wy_rules.specs.Nodes.{lines_nodes}
use Rattle.wy_rules.specs.Failing.{FirstFailing, IsLineFault}
use Rattle.wy_rules.proofs.Each.{arguments_hold, members_hold}
use Rattle.wy_rules.proofs.Marks.{effects_are_within, is_safe_for}
use Rattle.wy_rules.proofs.Sources.{at, last, method, declaration, own, object, atoms_of, head, module_of, main_of, program}

-- a module of a kind with these parameters, sealed at E
abbrev empty : ScopeKind → List ℕ → List OwnName → Scope
empty k name names = module_of (head k (at 1 1) name [] names 5 []) (object [] ∷ []) (at 1 1) [] code.none []

abbrev clock : TypeRef
clock = Named 2 ((0 ∷ []) ∷ [])

abbrev l_parameter : OwnName
l_parameter = own (at 1 1) (codes "l") (Named 6 ((0 ∷ []) ∷ [])) (Parameter true)

abbrev w_parameter : OwnName
w_parameter = own (at 1 1) (codes "w") (Named 7 ((0 ∷ []) ∷ [])) (Parameter true)

abbrev plug_parameter : OwnName
plug_parameter = own (at 1 1) (codes "w") (Named 7 []) (Parameter false)

abbrev main_with : TypeRef → Origin → Scope
main_with typ origin =
    main_of (atoms_of (codes "clock") (codes "Tick" ∷ [])) (own (at 19 9) (codes "clock") clock Grant ∷ own (at 20 12) (codes "i") typ origin ∷ [])
    [] (at 21 3) [] (last (code.Nothing (at 22 5))) []

abbrev with_line : TypeRef → Origin → Program
with_line typ origin =
    program
    (declaration (codes "E") [] [] ∷
    declaration (codes "L") (codes "Log" ∷ []) (method (codes "log") [] (0 ∷ []) Nothing ∷ []) ∷
    declaration (codes "W") (codes "Tick" ∷ []) (method (codes "now") [] (0 ∷ []) Bool ∷ []) ∷ [])
    (empty kind.Pure (codes "p") [] ∷
    empty kind.Resource (codes "log") (l_parameter ∷ []) ∷
    empty kind.Resource (codes "wait") (w_parameter ∷ []) ∷
    empty kind.Plain (codes "plug") (plug_parameter ∷ []) ∷
    main_with typ origin ∷ [])

abbrev fault : RuleName → ℕ → Fault
fault rule premise = record { place = at 20 12; rule = rule; premise = premise; atom = None }

-- no line stands before
in_main : (typ : TypeRef) (origin : Origin) (f : Fault) → FirstFailing (with_line typ origin) 4 (main_with typ origin) [] (lines_nodes (main_with typ origin).names) f → IsLineFault (with_line typ origin) f
in_main typ origin f h = inr (tt, inr (tt, inr (tt, inr (tt, inl h))))

abbrev E : TypeRef
E = Named 5 []

-- a module that is there has its own kind alone
same_scope : (a b : Scope) → ◌≡◌ {A = Option Scope} (Some a) (Some b) → a ≡ b
same_scope a b e = cc

kind_of : (typ : TypeRef) (origin : Origin) (m : ℕ) (s : Scope) (k : ScopeKind) → slice_get (with_line typ origin).scopes m ≡ Some s → IsOfKind (with_line typ origin) k m → s.kind ≡ k
kind_of typ origin m s k e h = let P : Scope → Type 0 = λ v. v.kind ≡ k in subst P (same_scope h.0 s (sym h.1 ∙ e)) h.2

resource_not_pure : kind.Resource ≡ kind.Pure → ⊥
resource_not_pure e = absurd (cc)

pure_not_resource : kind.Pure ≡ kind.Resource → ⊥
pure_not_resource e = absurd (cc)

pure_not_plain : kind.Pure ≡ kind.Plain → ⊥
pure_not_plain e = absurd (cc)

none_is_one : ◌≡◌ {A = ℕ} 0 1 → ⊥
none_is_one e = omega arith

------------------------------------------------------------
-- use log                         a resource module isn't used

use_refused : IsLineFault (with_line E (Use 1)) (fault MUse 1)
use_refused =
    in_main E (Use 1) (fault MUse 1) (inl (record {
      expected = None;
      atom = None;
      spot = refl;
      stands_not = λ h. resource_not_pure (kind_of E (Use 1) 1 _ kind.Pure refl h);
      premise = (refl, refl);
      place = refl;
      rule = refl;
      lacks = refl;
    }))

------------------------------------------------------------
-- instance i = p()                a pure module makes no instances

pure_instance_refused : IsLineFault (with_line E (Instance 0 [])) (fault MInst 1)
pure_instance_refused =
    let wrong : IsOfKind (with_line E (Instance 0 [])) kind.Resource 0 → ⊥ = λ h. pure_not_resource (kind_of E (Instance 0 []) 0 _ kind.Resource refl h) in
    in_main E (Instance 0 []) (fault MInst 1) (inl (record {
      expected = None;
      atom = None;
      spot = refl;
      stands_not = λ h. wrong h.resource;
      premise = inl (inl (wrong, refl), refl);
      place = refl;
      rule = refl;
      lacks = refl;
    }))

-- instance i = wait()             an argument is wanting

few_arguments_refused : IsLineFault (with_line E (Instance 2 [])) (fault MInst 2)
few_arguments_refused =
    in_main E (Instance 2 []) (fault MInst 2) (inl (record {
      expected = None;
      atom = None;
      spot = refl;
      stands_not = λ h. none_is_one h.numbers;
      premise = inl (inr ((_, refl, refl), inl (none_is_one, refl)), refl);
      place = refl;
      rule = refl;
      lacks = refl;
    }))

-- instance i = log(clock)         a clock has no member `Log`

no_set : (set : List ℕ) → ◌≡◌ {A = Option (List ℕ)} None (Some set) → ⊥
no_set set e = absurd (cc)

abbrev handed_l : Handed
handed_l = record { parameter = l_parameter; argument = 0 }

member_refused : IsLineFault (with_line E (Instance 1 (0 ∷ []))) (fault MInst 3)
member_refused =
    let p = with_line E (Instance 1 (0 ∷ [])) in
    let wrong : HasMembers (with_line E (Instance 1 (0 ∷ []))) 4 (main_with E (Instance 1 (0 ∷ []))).names handed_l → ⊥ = λ h. (let m = h (codes "Log") (inl refl) in no_set m.0 m.1) in
    in_main E (Instance 1 (0 ∷ [])) (fault MInst 3) (inl (record {
      expected = None;
      atom = None;
      spot = refl;
      stands_not = λ h. wrong (h.members handed_l (inl refl));
      premise = inl (inr ((_, refl, refl), inr (refl, inl (λ h. wrong (h handed_l (inl refl)), refl))), refl);
      place = refl;
      rule = refl;
      lacks = refl;
    }))

-- instance i = wait(clock)        its `now` gives a number

abbrev handed_w : Handed
handed_w = record { parameter = w_parameter; argument = 0 }

abbrev now : List ℕ → TypeRef → Method
now effect result = method (codes "now") [] effect result

clock_not_W : IsAnnotatedSubtype (with_line E (Instance 2 (0 ∷ []))) 4 clock (Named 7 ((0 ∷ []) ∷ [])) → ⊥
clock_not_W h =
    elim (h.closed (clock, Named 7 ((0 ∷ []) ∷ [])) h.first) [
      | inl base ↦ base.1 tt
      | inr object ↦ number_no_truth h (object.2 (signature (now (0 ∷ []) Bool)) (inl refl)).result
    ]
  where
    number_no_truth : (h : IsAnnotatedSubtype (with_line E (Instance 2 (0 ∷ []))) 4 clock (Named 7 ((0 ∷ []) ∷ []))) → In {X = TypeRef × TypeRef} (Int, Bool) h.pairs → ⊥
    number_no_truth h i =
        elim (h.closed (Int, Bool) i) [
          | inl base ↦ (let e : Int ≡ Bool = base.0 in absurd (cc))
          | inr object ↦ object.0
        ]

type_refused : IsLineFault (with_line E (Instance 2 (0 ∷ []))) (fault MInst 4)
type_refused =
    let p = with_line E (Instance 2 (0 ∷ [])) in
    let names = (main_with E (Instance 2 (0 ∷ []))).names in
    in_main E (Instance 2 (0 ∷ [])) (fault MInst 4) (inl (record {
      expected = None;
      atom = None;
      spot = refl;
      stands_not = λ h. clock_not_W (h.types handed_w (inl refl));
      premise = inl (
        inr (
          (_, refl, refl),
          inr (
            refl,
            inr (
              arguments_hold p 4 names (HasMembers p 4 names) 2 (0 ∷ []) (members_hold p 4 names handed_w ((_, refl), tt), tt),
              inl (λ h. clock_not_W (h handed_w (inl refl)), refl),
            ),
          ),
        ),
        refl,
      );
      place = refl;
      rule = refl;
      lacks = refl;
    }))

------------------------------------------------------------
-- import i = p() at {}            a pure module isn't imported

pure_import_refused : IsLineFault (with_line (At 5 []) (Import 0 [] [])) (fault MImport 1)
pure_import_refused =
    let wrong : IsOfKind (with_line (At 5 []) (Import 0 [] [])) kind.Plain 0 → ⊥ = λ h. pure_not_plain (kind_of (At 5 []) (Import 0 [] []) 0 _ kind.Plain refl h) in
    in_main (At 5 []) (Import 0 [] []) (fault MImport 1) (inl (record {
      expected = None;
      atom = None;
      spot = refl;
      stands_not = λ h. wrong h.plain;
      premise = (refl, inl (wrong, refl));
      place = refl;
      rule = refl;
      lacks = refl;
    }))

-- import i = plug() at {}         an argument is wanting

few_handed_refused : IsLineFault (with_line (At 5 []) (Import 3 [] [])) (fault MImport 2)
few_handed_refused =
    in_main (At 5 []) (Import 3 [] []) (fault MImport 2) (inl (record {
      expected = None;
      atom = None;
      spot = refl;
      stands_not = λ h. none_is_one h.numbers;
      premise = (refl, inr ((_, refl, refl), inl (none_is_one, refl)));
      place = refl;
      rule = refl;
      lacks = refl;
    }))

-- import i = plug(clock) at {clock.Tick}      without effects it is no W either

abbrev handed_plug : Handed
handed_plug = record { parameter = plug_parameter; argument = 0 }

abbrev q : Program
q = with_line (At 5 (0 ∷ [])) (Import 3 (0 ∷ []) (0 ∷ []))

abbrev names : List OwnName
names = (main_with (At 5 (0 ∷ [])) (Import 3 (0 ∷ []) (0 ∷ []))).names

bare_clock_not_W : IsPlainSubtype q 4 (Named 2 []) (Named 7 []) → ⊥
bare_clock_not_W h =
    elim (h.closed (Named 2 [], Named 7 []) h.first) [
      | inl base ↦ base.1 tt
      | inr object ↦ number_no_truth h (object.2 (signature (now [] Bool)) (inl refl)).result
    ]
  where
    number_no_truth : (h : IsPlainSubtype q 4 (Named 2 []) (Named 7 [])) → In {X = TypeRef × TypeRef} (Int, Bool) h.pairs → ⊥
    number_no_truth h i =
        elim (h.closed (Int, Bool) i) [
          | inl base ↦ (let e : Int ≡ Bool = base.0 in absurd (cc))
          | inr object ↦ object.0
        ]

plain_type_refused : IsLineFault q (fault IImport 3)
plain_type_refused =
    in_main (At 5 (0 ∷ [])) (Import 3 (0 ∷ []) (0 ∷ [])) (fault IImport 3)
    (inr (
      record { expected = None; spot = refl; stands = record { plain = (_, refl, refl); numbers = refl }; settles = tt },
      inl (record {
        expected = None;
        atom = None;
        spot = refl;
        stands_not = λ h. bare_clock_not_W (h.types handed_plug (inl refl));
        premise = inr (
          arguments_hold q 4 names (EffectsBounded q 4 names (0 ∷ [])) 3 (0 ∷ []) (effects_are_within (methods_of q 4) (bounds_of q 4) ((clock, true) ∷ (Int, true) ∷ []) clock true (0 ∷ []) refl refl refl, tt),
          inr (
            arguments_hold q 4 names (IsHigherOrderSafe q 4 names (0 ∷ [])) 3 (0 ∷ []) (is_safe_for (methods_of q 4) (bounds_of q 4) ((clock, true) ∷ (Int, true) ∷ []) clock false (0 ∷ []) refl refl refl, tt),
            (refl, inl (λ h. bare_clock_not_W (h handed_plug (inl refl)), refl)),
          ),
        );
        place = refl;
        rule = refl;
        lacks = refl;
      }),
    ))
