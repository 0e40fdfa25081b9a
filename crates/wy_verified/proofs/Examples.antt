-- An image of an instance that writes to a console, and of a program that calls it: it follows the rules, so the laws
-- speak of something.
use Rattle.std.proofs.Common.{codes, ◌≡◌, ℕ, zero, suc, List, [], ◌∷◌, map, inl, inr, refl, sym, subst, Some, None}
use Rattle.std.proofs.Common.{arith}
use Rattle.std.specs.Prelude.{slice_get, length, ◌-◌}
use Rattle.wy_device.specs.declared.primitive.Primitive.TheVariants.{Console, Folder, FullFolder}
use Rattle.wy_code.specs.declared.code.Argument.TheVariants as argument
use Rattle.wy_code.specs.declared.code.Body.{Body}
use Rattle.wy_code.specs.declared.code.Instance.{Instance}
use Rattle.wy_code.specs.declared.code.Literal.{Literal}
use Rattle.wy_code.specs.declared.code.Method.{Method}
use Rattle.wy_code.specs.declared.code.Scope.{Scope}
use Rattle.wy_code.specs.declared.instruction.Constant.TheVariants as constant
use Rattle.wy_code.specs.declared.instruction.Instruction.{Instruction}
use Rattle.wy_code.specs.declared.instruction.Instruction.TheVariants.{Push, Load, Get, Call, Return, Finish}
use Rattle.wy_code.specs.declared.instruction.Placed.{Placed}
use Rattle.wy_code.specs.Machine.{all_instances}
use Rattle.wy_code.specs.Running.{NeverStuck}
use Rattle.wy_image.specs.declared.typing.Atom.{Atom}
use Rattle.wy_image.specs.declared.typing.Bounds.{Bounds}
use Rattle.wy_verified.specs.Images.{Image}
use Rattle.wy_image.specs.declared.typing.Reference.TheVariants as written
use Rattle.wy_verified.specs.Kinds.{MethodType, granted_method, Kind, Texts, Units, Own, Granted, In, value_kinds}
use Rattle.wy_verified.specs.Rules.{Known, Follows, BodyFollows, BodyIs, InstanceIs, IsVerified}
use Rattle.wy_verified.proofs.Lists.{some_same, none_some}
use Rattle.wy_verified.specs.Walking.{VerifyRule, Range, Argument, Flow, State, Depth, Types, Effect, Before}
use Rattle.wy_verified.specs.Passing.{Passes, FailsFrom}
use Rattle.wy_verified.proofs.Whole.{never_stuck}

abbrev code_of : List Instruction → List Placed
code_of is =
    map (λ i. let p : Placed = record { instruction = i; place = record { file = 1; line = 1; column = 1 } } in p) is

abbrev init : Body
init = record { name = codes "init"; parameters = 0; vals = 0; slots = 1; instructions = code_of (Finish ∷ []) }

abbrev log : Body
log = record {
  name = codes "log";
  parameters = 1;
  vals = 0;
  slots = 4;
  instructions =
      code_of (Get 0 ∷ Load 1 ∷ Call 0 1 ∷ Return ∷ []);
}

abbrev run : Body
run = record {
  name = codes "run";
  parameters = 0;
  vals = 0;
  slots = 3;
  instructions =
      code_of (Push (constant.Instance 0) ∷ Push (constant.Text 0) ∷ Call 1 1 ∷ Finish ∷ []);
}

abbrev writes : List Atom
writes = record { grant = 0; member = 1 } ∷ []

abbrev init_bounds : Bounds
init_bounds =
    record {
      body = 0;
      name = codes "init";
      effect = [];
      parameters = [];
      result = written.Unit;
      vals = [];
      targets =
          [];
    }

abbrev log_bounds : Bounds
log_bounds =
    record {
      body = 1;
      name = codes "log";
      effect = writes;
      parameters = written.Bytes ∷ [];
      result = written.Unit;
      vals = [];
      targets = [];
    }

abbrev run_bounds : Bounds
run_bounds =
    record {
      body = 2;
      name = codes "run";
      effect = writes;
      parameters = [];
      result = written.Unit;
      vals = [];
      targets =
          [];
    }

abbrev lg : Instance
lg = record { name = codes "lg"; scope = 0; arguments = argument.Grant 0 ∷ [] }

abbrev main : Instance
main = record { name = codes "main"; scope = 1; arguments = [] }

abbrev lg_module : Literal
lg_module = record { captures = []; fields = 0; methods = record { method = 1; body = 1 } ∷ [] }

abbrev main_module : Literal
main_module = record { captures = []; fields = 0; methods = [] }

abbrev lg_scope : Scope
lg_scope = record { arguments = 1; start = 0; literals = lg_module ∷ [] }

abbrev main_scope : Scope
main_scope = record { arguments = 0; start = 2; literals = main_module ∷ [] }

abbrev image : Image
image = record {
  code = record {
    grants = record { name = codes "c"; primitive = Console } ∷ [];
    methods = codes "write" ∷ codes "log" ∷ [];
    texts = codes "x" ∷ [];
    bodies = init ∷ log ∷ run ∷ [];
    scopes = lg_scope ∷ main_scope ∷ [];
    instances = lg ∷ [];
    main = main;
  };
  names = codes "write" ∷ codes "log" ∷ [];
  types = [];
  typings = record { values = written.Grant 0 ∷ []; literals = []; bodies = init_bounds ∷ log_bounds ∷ [] } ∷
      record { values = []; literals = []; bodies = run_bounds ∷ [] } ∷ [];
}

abbrev known : List Kind → Known
known ks = record { operands = ks; stored = []; set = 0 }

init_follows : BodyFollows image 0 None init init_bounds 1
init_follows =
    record {
      name = refl;
      parameters = refl;
      vals = omega arith;
      states = known [] ∷ [];
      long = refl;
      first = refl;
      each = each;
    }
  where
    each : (at : ℕ) (p : Placed) (k : Known) → slice_get init.instructions at ≡ Some p →
        slice_get (known [] ∷ []) at ≡ Some k → Follows image 0 None init init_bounds 1 (known [] ∷ []) at k
        p.instruction
    each zero p k e f =
        subst (λ (p : Placed). Follows image 0 None init init_bounds 1 (known [] ∷ []) zero k p.instruction)
        (some_same e)
        (subst (λ (k : Known). Follows image 0 None init init_bounds 1 (known [] ∷ []) zero k Finish) (some_same f)
        (refl, refl, inl (omega arith, refl)))
    each (suc at) p k e f = absurd (none_some e)

abbrev log_states : List Known
log_states = known [] ∷ known (Granted 0 ∷ []) ∷ known (Texts ∷ Granted 0 ∷ []) ∷ known (Units ∷ []) ∷ []

abbrev LogFollows : ℕ → Known → Instruction → Type 0
LogFollows at k i = Follows image 0 (Some 0) log log_bounds 1 log_states at k i

log_follows : BodyFollows image 0 (Some 0) log log_bounds 1
log_follows =
    record {
      name = refl;
      parameters = refl;
      vals = omega arith;
      states = log_states;
      long = refl;
      first = refl;
      each =
          each;
    }
  where
    at_place : (at : ℕ) (i : Instruction) (q : Known) (p : Placed) (k : Known) → LogFollows at q i →
        Some (let p : Placed = record { instruction = i; place = record { file = 1; line = 1; column = 1 } } in p) ≡
        Some p →
        Some q ≡ Some k → LogFollows at k p.instruction
    at_place at i q p k h e f =
        subst (λ (p : Placed). LogFollows at k p.instruction) (some_same e)
        (subst (λ (k : Known). LogFollows at k i) (some_same f) h)

    each : (at : ℕ) (p : Placed) (k : Known) → slice_get log.instructions at ≡ Some p →
        slice_get log_states at ≡ Some k → LogFollows at k p.instruction
    each zero p k e f = at_place 0 (Get 0) (known []) p k (
      Granted 0,
      record { there = refl; read = tt },
      record {
        room = omega arith;
        comes = record {
          next = known (Granted 0 ∷ []);
          there = refl;
          reaches = record { operands = (inl refl, tt); stored = λ s h. h; set = refl };
        };
      },
    ) e f
    each (suc zero) p k e f = at_place 1 (Load 1) (known (Granted 0 ∷ [])) p k (
      Texts,
      record { by = inr (inl (0, refl, refl)) },
      record {
        room = omega arith;
        comes = record {
          next = known (Texts ∷ Granted 0 ∷ []);
          there = refl;
          reaches = record { operands = (inl refl, (inl refl, tt)); stored = λ s h. h; set = refl };
        };
      },
    ) e f
    each (suc (suc zero)) p k e f = at_place 2 (Call 0 1) (known (Texts ∷ Granted 0 ∷ [])) p k (record {
      listed = refl;
      method = record { params = Texts ∷ []; effect = writes; result = Units };
      receiver = Granted 0;
      top = Texts ∷ [];
      rest = [];
      operands = refl;
      count = refl;
      there = refl;
      fit = (inl refl, tt);
      effect = λ a i. i;
      pushes = record {
        room = omega arith;
        comes =
            record {
              next = known (Units ∷ []);
              there = refl;
              reaches =
                  record { operands = (inl refl, tt); stored = λ s h. h; set = refl };
            };
      };
    }) e f
    each (suc (suc (suc zero))) p k e f =
        at_place 3 Return (known (Units ∷ [])) p k (0, Units, refl, refl, inl refl) e f
    each (suc (suc (suc (suc at)))) p k e f = absurd (none_some e)

abbrev run_states : List Known
run_states = known [] ∷ known (Own 0 0 ∷ []) ∷ known (Texts ∷ Own 0 0 ∷ []) ∷ known (Units ∷ []) ∷ []

abbrev RunFollows : ℕ → Known → Instruction → Type 0
RunFollows at k i = Follows image 1 None run run_bounds 0 run_states at k i

run_follows : BodyFollows image 1 None run run_bounds 0
run_follows =
    record {
      name = refl;
      parameters = refl;
      vals = omega arith;
      states = run_states;
      long = refl;
      first = refl;
      each =
          each;
    }
  where
    at_place : (at : ℕ) (i : Instruction) (q : Known) (p : Placed) (k : Known) → RunFollows at q i →
        Some (let p : Placed = record { instruction = i; place = record { file = 1; line = 1; column = 1 } } in p) ≡
        Some p →
        Some q ≡ Some k → RunFollows at k p.instruction
    at_place at i q p k h e f =
        subst (λ (p : Placed). RunFollows at k p.instruction) (some_same e)
        (subst (λ (k : Known). RunFollows at k i) (some_same f) h)

    each : (at : ℕ) (p : Placed) (k : Known) → slice_get run.instructions at ≡ Some p →
        slice_get run_states at ≡ Some k → RunFollows at k p.instruction
    each zero p k e f = at_place 0 (Push (constant.Instance 0)) (known []) p k (
      Own 0 0,
      (refl, omega arith, refl),
      record {
        room = omega arith;
        comes = record {
          next = known (Own 0 0 ∷ []);
          there = refl;
          reaches = record { operands = (inl refl, tt); stored = λ s h. h; set = refl };
        };
      },
    ) e f
    each (suc zero) p k e f = at_place 1 (Push (constant.Text 0)) (known (Own 0 0 ∷ [])) p k (
      Texts,
      (omega arith, refl),
      record {
        room = omega arith;
        comes = record {
          next = known (Texts ∷ Own 0 0 ∷ []);
          there = refl;
          reaches = record { operands = (inl refl, (inl refl, tt)); stored = λ s h. h; set = refl };
        };
      },
    ) e f
    each (suc (suc zero)) p k e f = at_place 2 (Call 1 1) (known (Texts ∷ Own 0 0 ∷ [])) p k (record {
      listed = refl;
      method = record { params = Texts ∷ []; effect = writes; result = Units };
      receiver = Own 0 0;
      top = Texts ∷ [];
      rest = [];
      operands = refl;
      count = refl;
      there = refl;
      fit = (inl refl, tt);
      effect = λ a i. i;
      pushes = record {
        room = omega arith;
        comes =
            record {
              next = known (Units ∷ []);
              there = refl;
              reaches =
                  record { operands = (inl refl, tt); stored = λ s h. h; set = refl };
            };
      };
    }) e f
    each (suc (suc (suc zero))) p k e f =
        at_place 3 Finish (known (Units ∷ [])) p k (refl, refl, inr (refl, (Units, refl, inl refl))) e f
    each (suc (suc (suc (suc at)))) p k e f = absurd (none_some e)

lg_is : InstanceIs BodyFollows image 0 lg
lg_is = record {
  scope = lg_scope;
  there = refl;
  own = lg_module;
  is_own = refl;
  values = refl;
  arguments = (inl refl, tt);
  start = record { body = init; bounds = init_bounds; there = refl; is_stated = refl; follows = init_follows };
  no_parameters = refl;
  methods = methods;
}
  where
    logs : BodyIs BodyFollows image 0 (Some 0) 1 1
    logs = record { body = log; bounds = log_bounds; there = refl; is_stated = refl; follows = log_follows }

    methods : (l : ℕ) (literal : Literal) (m : Method) → slice_get lg_scope.literals l ≡ Some literal →
        In m literal.methods →
        BodyIs BodyFollows image 0 (Some l) m.body (length (value_kinds image 0 l) - literal.fields)
    methods zero literal m e i = of (subst (λ (literal : Literal). In m literal.methods) (sym (some_same e)) i)
      where
        of : In m lg_module.methods → BodyIs BodyFollows image 0 (Some 0) m.body
            (length (value_kinds image 0 0) - literal.fields)
        of (inl h) =
            subst (λ (literal : Literal). BodyIs BodyFollows image 0 (Some 0) m.body
            (length (value_kinds image 0 0) - literal.fields)) (some_same e)
            (subst (λ (m : Method). BodyIs BodyFollows image 0 (Some 0) m.body 1) h logs)
        of (inr h) = absurd h
    methods (suc l) literal m e i = absurd (none_some e)

main_is : InstanceIs BodyFollows image 1 main
main_is = record {
  scope = main_scope;
  there = refl;
  own = main_module;
  is_own = refl;
  values = refl;
  arguments = tt;
  start = record { body = run; bounds = run_bounds; there = refl; is_stated = refl; follows = run_follows };
  no_parameters = refl;
  methods = methods;
}
  where
    methods : (l : ℕ) (literal : Literal) (m : Method) → slice_get main_scope.literals l ≡ Some literal →
        In m literal.methods →
        BodyIs BodyFollows image 1 (Some l) m.body (length (value_kinds image 1 l) - literal.fields)
    methods zero literal m e i = absurd (subst (λ (literal : Literal). In m literal.methods) (sym (some_same e)) i)
    methods (suc l) literal m e i = absurd (none_some e)

pub is_verified : IsVerified image
is_verified = record { each = each; main = refl }
  where
    each : (x : ℕ) (i : Instance) → slice_get (all_instances image.code) x ≡ Some i → InstanceIs BodyFollows image x i
    each zero i e = subst (λ (i : Instance). InstanceIs BodyFollows image 0 i) (some_same e) lg_is
    each (suc zero) i e = subst (λ (i : Instance). InstanceIs BodyFollows image 1 i) (some_same e) main_is
    each (suc (suc x)) i e = absurd (none_some e)

is_never_stuck : NeverStuck image.code
is_never_stuck = never_stuck image is_verified

------------------------------------------------------------
-- The same image, whose program states no effect: its run fails first at the call, by the rule on effects

abbrev silent_bounds : Bounds
silent_bounds = record run_bounds { effect = [] }

abbrev silent : Image
silent = record image {
  typings = record { values = written.Grant 0 ∷ []; literals = []; bodies = init_bounds ∷ log_bounds ∷ [] } ∷
      record { values = []; literals = []; bodies = silent_bounds ∷ [] } ∷ [];
}

fails_at_call : FailsFrom silent 1 None run silent_bounds 0 0 (Some (known [])) [] run.instructions Effect 2
fails_at_call = inr (first, inr (second, inl (refl, before, λ h. h (record { grant = 0; member = 1 }) (inl refl))))
  where
    first : (r : VerifyRule) → Passes silent 1 None run silent_bounds 0 r 0 (known []) [] (Push (constant.Instance 0))
    first Range = omega arith
    first Argument = tt
    first Flow = omega arith
    first State = ((omega arith, refl, λ to h. tt), λ to h. tt)
    first Depth = omega arith
    first Types = (tt, λ to h. tt)
    first Effect = tt

    second : (r : VerifyRule) → Passes silent 1 None run silent_bounds 0 r 1 (known (Own 0 0 ∷ [])) []
        (Push (constant.Text 0))
    second Range = omega arith
    second Argument = tt
    second Flow = omega arith
    second State = ((omega arith, tt, λ to h. tt), λ to h. tt)
    second Depth = omega arith
    second Types = (tt, λ to h. tt)
    second Effect = tt

    before : (r : VerifyRule) → Before r Effect →
        Passes silent 1 None run silent_bounds 0 r 2 (known (Texts ∷ Own 0 0 ∷ [])) [] (Call 1 1)
    before Range h = refl
    before Argument h = tt
    before Flow h = omega arith
    before State h = ((omega arith, tt, λ to h. tt), λ to h. tt)
    before Depth h = omega arith
    before Types h = ((inl refl, tt), λ to h. tt)
    before Effect h = absurd (omega (arith, h))

------------------------------------------------------------
-- A full folder can remove a file, by its fifth member, and a folder cannot

abbrev removes : MethodType
removes = record { params = Texts ∷ []; effect = record { grant = 3; member = 4 } ∷ []; result = Units }

full_folder_removes : granted_method 3 (Some (record { name = codes "disk"; primitive = FullFolder }))
    (Some (codes "remove")) ≡ Some removes
full_folder_removes = refl

folder_removes_not : granted_method 3 (Some (record { name = codes "disk"; primitive = Folder }))
    (Some (codes "remove")) ≡ None
folder_removes_not = refl
