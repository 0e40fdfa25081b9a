-- The image of a program that writes to its console is verified; where it states no effect for `run`, its first failure
-- is that of the
-- rule on effects at the call.
use Rattle.std.proofs.Common.{true, codes, ◌≡◌, ◌≢◌, ℕ, zero, suc, ◌<◌, ◌≤◌, List, [], ◌∷◌, inl, inr, refl, sym, subst}
use Rattle.std.proofs.Common.{Some, None, arith, lit<, lit≤}
use Rattle.std.specs.Prelude.{slice_get}
use Rattle.wy_text.specs.Members.{In}
use Rattle.wy_layout.specs.Names.{is_name}
use Rattle.wy_device.specs.declared.primitive.Primitive.TheVariants.{Console}
use Rattle.wy_code.specs.declared.instruction.Constant.TheVariants as code_constant
use Rattle.wy_code.specs.declared.instruction.Instruction.TheVariants as code
use Rattle.wy_code.specs.Running.{NeverStuck}
use Rattle.wy_image.specs.declared.file.Body.{Body}
use Rattle.wy_image.specs.declared.file.Constant.TheVariants as constant
use Rattle.wy_image.specs.declared.file.Grant.{Grant}
use Rattle.wy_image.specs.declared.file.ImageFile.{ImageFile}
use Rattle.wy_image.specs.declared.file.Instruction.{Instruction}
use Rattle.wy_image.specs.declared.file.Instruction.TheVariants as does
use Rattle.wy_image.specs.declared.file.Row.{Row}
use Rattle.wy_image.specs.declared.file.Scope.{Scope}
use Rattle.wy_image.specs.declared.typing.Atom.{Atom}
use Rattle.wy_image.specs.declared.typing.Bounds.{Bounds}
use Rattle.wy_image.specs.declared.typing.Reference.TheVariants as written
use Rattle.wy_verified.specs.CodeOf.{code_of, image_of}
use Rattle.wy_verified.specs.Kinds.{Kind, Texts, Units, Granted}
use Rattle.wy_verified.specs.Visiting.{Tests}
use Rattle.wy_verified.specs.Ranges.{Role, roles_of, RowInRange, ScopeInRange, BoundsInRange, IsInRange}
use Rattle.wy_verified.specs.Rules.{Known}
use Rattle.wy_verified.specs.Verifying.{IsVerifiedFile, FileFails}
use Rattle.wy_verified.specs.Walking.{VerifyRule, Range, Argument, Flow, State, Depth, Types, Effect, Before}
use Rattle.wy_verified.proofs.Lists.{none_some, some_same}
use Rattle.wy_verified.proofs.Results.{verified_file_is_never_stuck}

abbrev row : Instruction → Row
row i = record { instruction = i; file = 1; line = 4; column = 5 }

abbrev console : Grant
console = record { name = codes "console"; primitive = Console }

abbrev run : Body
run = record {
  parameters = 0;
  slots = 3;
  rows = row (does.Push (constant.Grant 0)) ∷
      row (does.Push (constant.Text (codes "hello\n"))) ∷ row (does.Call 0 1) ∷ row does.Finish ∷ [];
}

abbrev program : Scope
program = record { arguments = 0; first = 0; fields = 0; entries = []; literals = [] }

abbrev writes : List Atom
writes = record { grant = 0; member = 1 } ∷ []

abbrev bounds : List Atom → Bounds
bounds effect =
    record {
      body = 0;
      name = codes "run";
      effect = effect;
      parameters = [];
      result = written.Unit;
      vals = [];
      targets =
          [];
    }

abbrev file : List Atom → ImageFile
file effect = record {
  files = codes "b.wy" ∷ [];
  grants = console ∷ [];
  methods = codes "write" ∷ [];
  types = [];
  bodies = run ∷ [];
  scopes = program ∷ [];
  instances = [];
  main = record { scope = 0; typing = record { values = []; literals = []; bodies = bounds effect ∷ [] } };
}

single : {X : Type 0} (P : X → Type 0) (x y : X) → P x → In y (x ∷ []) → P y
single P x y p (inl e) = subst P e p
single P x y p (inr h) = absurd h

at_single : {X : Type 0} (P : X → Type 0) (x y : X) (k : ℕ) → P x → slice_get (x ∷ []) k ≡ Some y → P y
at_single P x y zero p e = subst P (some_same e) p
at_single P x y (suc k) p e = absurd (none_some e)

-- that `console` is a name is for the tables of characters to say; each atom of the effect is one of the console's
module _ (is_named : is_name (codes "console") ≡ true) (effect : List Atom)
    (atoms : (a : Atom) → In a effect → (a.grant ≡ 0) × (a.member < 2)) where
  row_in_range : (r : Row) → In r run.rows → RowInRange (file effect) program None run r
  row_in_range r (inl e) =
      subst (RowInRange (file effect) program None run) e
      (record { some = lit≤ tt; most = lit≤ tt; instruction = lit< tt })
  row_in_range r (inr (inl e)) =
      subst (RowInRange (file effect) program None run) e
      (record { some = lit≤ tt; most = lit≤ tt; instruction = lit≤ tt })
  row_in_range r (inr (inr (inl e))) =
      subst (RowInRange (file effect) program None run) e
      (record { some = lit≤ tt; most = lit≤ tt; instruction = lit< tt })
  row_in_range r (inr (inr (inr (inl e)))) =
      subst (RowInRange (file effect) program None run) e (record { some = lit≤ tt; most = lit≤ tt; instruction = tt })
  row_in_range r (inr (inr (inr (inr h)))) = absurd h

  role_rows : (r : Role) (b : Body) (w : Row) → In r (roles_of program) → slice_get (run ∷ []) r.1 ≡ Some b →
      In w b.rows → RowInRange (file effect) program r.0 b w
  role_rows r b w (inl e) g h =
      subst (λ (r : Role). RowInRange (file effect) program r.0 b w) e
      (at_single (λ (b : Body). In w b.rows → RowInRange (file effect) program None b w) run b r.1 (row_in_range w) g h)
  role_rows r b w (inr e) g h = absurd e

  scope_in_range : ScopeInRange (file effect) program
  scope_in_range = record {
    no_parameters = λ b e. at_single (λ (b : Body). b.parameters ≡ 0) run b 0 refl e;
    entries = record { apart = tt; each = λ m h. absurd h };
    literals = λ l h. absurd h;
    rows = role_rows;
  }

  printed : (b : ℕ) → In b (codes "run") → (32 ≤ b) × (b ≢ 127) × (b ≢ 58)
  printed b (inl e) = (omega (arith, e), (λ g. omega (arith, e, g)), λ g. omega (arith, e, g))
  printed b (inr (inl e)) = (omega (arith, e), (λ g. omega (arith, e, g)), λ g. omega (arith, e, g))
  printed b (inr (inr (inl e))) = (omega (arith, e), (λ g. omega (arith, e, g)), λ g. omega (arith, e, g))
  printed b (inr (inr (inr h))) = absurd h

  bounds_in_range : BoundsInRange (file effect) 0 program run (bounds effect)
  bounds_in_range = record {
    printed = ((λ e. cc), printed);
    name = refl;
    atoms = λ a h. let q = atoms a h in
        subst (λ g. Rattle.wy_verified.specs.Ranges.IsMember (file effect) (slice_get (console ∷ []) g) a.member)
        (sym q.0) q.1;
    count = refl;
    parameters = λ r h. absurd h;
    result = tt;
    stored = lit≤ tt;
    vals = λ r h. absurd h;
    targets = λ t h. absurd h;
  }

  in_range : IsInRange (file effect)
  in_range = record {
    limits = record {
      files = lit≤ tt;
      grants = lit≤ tt;
      instances = lit≤ tt;
      bodies = lit≤ tt;
      slots =
          λ b h. single (λ (b : Body). b.slots ≤ 256) run b (lit≤ tt) h;
    };
    grants = ((λ h. h), tt);
    grant_names =
        λ g h. single (λ (g : Grant). Rattle.wy_verified.specs.Ranges.IsGrantName g.name) console g
        (is_named, refl, lit≤ tt) h;
    methods = ((λ h. h), tt);
    types = λ t h. absurd h;
    scopes = λ s h. single (ScopeInRange (file effect)) program s scope_in_range h;
    bodies = record {
      apart = ((λ h. h), tt);
      there = λ b h. single (λ b. b < 1) 0 b (lit< tt) h;
      all =
          λ b h. inl (omega (arith, h));
    };
    names = ((λ h. h), tt);
    instances = λ x i e. absurd (none_some e);
    main = record {
      scope = program;
      there = refl;
      no_arguments = refl;
      no_fields = refl;
      typing = record {
        values = record { count = refl; all = λ r h. absurd h; plain = λ r h. absurd h };
        count = refl;
        literals = λ l rs e. absurd (none_some e);
        apart = ((λ h. h), tt);
        bodies = λ b. ((λ h. h), λ h. h);
        names = ((λ h. h), tt);
        each = λ n b h e.
            single (λ (n : Bounds). (b : Body) → slice_get (run ∷ []) n.body ≡ Some b →
            BoundsInRange (file effect) 0 program b n) (bounds effect) n
            (λ b e. at_single (λ (b : Body). BoundsInRange (file effect) 0 program b (bounds effect)) run b 0
            bounds_in_range e) h b e;
      };
    };
  }

abbrev known : List Kind → Known
known ks = record { operands = ks; stored = []; set = 0 }

written_atoms : (a : Atom) → In a writes → (a.grant ≡ 0) × (a.member < 2)
written_atoms a (inl e) = subst (λ (a : Atom). (a.grant ≡ 0) × (a.member < 2)) e (refl, lit< tt)
written_atoms a (inr h) = absurd h

no_atoms : (a : Atom) → In a [] → (a.grant ≡ 0) × (a.member < 2)
no_atoms a h = absurd h

module _ (effect : List Atom) where
  Holds : VerifyRule → ℕ → List Kind → Rattle.wy_code.specs.declared.instruction.Instruction.Instruction → Type 0
  Holds r at ks i =
      Tests (image_of (file effect)) 0 None (Rattle.wy_verified.specs.CodeOf.body_of
      (Rattle.wy_verified.specs.CodeOf.texts_of (file effect))
      (Rattle.wy_verified.specs.CodeOf.typings_of (file effect)) 0 run) (bounds effect) 0 r at (Some (known ks))
      (known ks) [] i

  first : (r : VerifyRule) → Holds r 0 [] (code.Push (code_constant.Grant 0))
  unfolding Holds
  first Range = tt
  first Argument = tt
  first Flow = omega arith
  first State = (tt, omega arith, refl, λ to h. absurd h)
  first Depth = omega arith
  first Types = (tt, tt, λ to h. absurd h)
  first Effect = tt

  second : (r : VerifyRule) → Holds r 1 (Granted 0 ∷ []) (code.Push (code_constant.Text 0))
  unfolding Holds
  second Range = omega arith
  second Argument = tt
  second Flow = omega arith
  second State = (tt, omega arith, tt, λ to h. absurd h)
  second Depth = omega arith
  second Types = (tt, tt, λ to h. absurd h)
  second Effect = tt

call_holds : (r : VerifyRule) → Holds writes r 2 (Texts ∷ Granted 0 ∷ []) (code.Call 0 1)
unfolding Holds
call_holds Range = refl
call_holds Argument = tt
call_holds Flow = omega arith
call_holds State = (tt, omega arith, tt, λ to h. absurd h)
call_holds Depth = omega arith
call_holds Types = (tt, (inl refl, tt), λ to h. absurd h)
call_holds Effect = λ a h. h

finish_holds : (r : VerifyRule) → Holds writes r 3 (Units ∷ []) code.Finish
unfolding Holds
finish_holds Range = tt
finish_holds Argument = tt
finish_holds Flow = (tt, inl refl)
finish_holds State = (tt, omega arith, (refl, inr (refl, refl)), λ to h. absurd h)
finish_holds Depth = omega arith
finish_holds Types = (tt, inl refl, λ to h. absurd h)
finish_holds Effect = tt

-- the image as it is built
is_verified : is_name (codes "console") ≡ true → IsVerifiedFile (file writes)
unfolding Holds
is_verified is_named = (
  in_range is_named writes written_atoms,
  (
    (
      tt,
      (
        ((λ e. cc), (_, refl, first writes, (_, refl, second writes, (_, refl, call_holds, (_, refl, finish_holds, tt))))),
        tt,
      ),
    ),
    tt,
  ),
)

is_never_stuck : is_name (codes "console") ≡ true → NeverStuck (code_of (file writes))
is_never_stuck is_named = verified_file_is_never_stuck (file writes) (is_verified is_named)

-- .. and with no effect stated: the first failure is V-Effect, of Main (0, since there is no instance), in its body 0,
-- at its instruction 2
call_before : (r : VerifyRule) → Before r Effect → Holds [] r 2 (Texts ∷ Granted 0 ∷ []) (code.Call 0 1)
unfolding Holds
call_before Range h = refl
call_before Argument h = tt
call_before Flow h = omega arith
call_before State h = (tt, omega arith, tt, λ to h. absurd h)
call_before Depth h = omega arith
call_before Types h = (tt, (inl refl, tt), λ to h. absurd h)
call_before Effect h = absurd (omega (arith, h))

fails_at_call : is_name (codes "console") ≡ true → FileFails (file []) Effect 0 0 2
unfolding Holds
fails_at_call is_named =
    inr (
      in_range is_named [] no_atoms,
      inl (
        refl,
        inr (
          tt,
          inl (
            refl,
            inr (
              _,
              refl,
              inr (
                first [],
                (
                  _,
                  refl,
                  inr (
                    second [],
                    (
                      _,
                      refl,
                      inl (
                        refl,
                        call_before,
                        λ h. h (record { grant = 0; member = 1 }) (inl refl),
                      ),
                    ),
                  ),
                ),
              ),
            ),
          ),
        ),
      ),
    )
