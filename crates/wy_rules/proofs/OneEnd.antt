-- Judging a core has one end, and none where it is accepted within the limits.
use Rattle.std.proofs.Common.{◌≡◌, ℕ, ◌+◌, List, [], ◌∷◌, ◌⊎◌, inl, inr, refl, sym, ◌∙◌, ap, subst, Some, arith}
use Rattle.std.specs.Prelude.{slice_get}
use Rattle.wy_text.specs.declared.fault.Fault.{Fault}
use Rattle.wy_text.specs.Members.{In}
use Rattle.wy_text.proofs.Lists.{In-slice_get}
use Rattle.wy_types.specs.Program.{Program, Scope}
use Rattle.wy_types.specs.Core.{IsCore, ScopeFits}
use Rattle.wy_types.proofs.Arities.{core_in_range}
use Rattle.wy_types.proofs.Bounding.{go_down}
use Rattle.wy_rules.specs.Acceptance.{ScopeAccepted}
use Rattle.wy_rules.specs.Nodes.{scope_nodes, lines_nodes}
use Rattle.wy_rules.specs.Failing.{IsScopeFault, IsLineFaultFrom}
use Rattle.wy_rules.specs.Refusals.{Turn, plain_modules, other_modules, the_program, Numbered, scopes_of, ScopePasses, FirstFault, LinesPassFrom}
use Rattle.wy_rules.specs.Ends.{End, limited, refused, IsScopeEnd, ScopeGoesOn, FirstEnd, AllGoOn, SomeReachTooMany, IsLimitEnd, KeepsLimits, IsLineEnd, IsBodyEnd, IsWithinLimits, OneScopeFault, OneEnd, AcceptedHasNoEnd}
use Rattle.wy_rules.proofs.Holding.{accepted_scopes_hold}
use Rattle.wy_rules.proofs.Passing.{accepted_lines_hold}
use Rattle.wy_rules.proofs.Unrefused.{accepted_of_turn, each_of_turn, no_first_fault}
use Rattle.wy_rules.proofs.Alike.{one_fault, passing_has_no_fault}
use Rattle.wy_rules.proofs.AlikeScopes.{scope_alike}
use Rattle.wy_rules.proofs.AlikeLines.{lines_alike}

pub one_scope_fault : OneScopeFault
one_scope_fault p k s a b core e f g = one_fault p k s f.locals g.locals (scope_nodes s) (scope_alike p k s f.locals g.locals (go_down p (core_in_range p core) k) (core.scopes s (In-slice_get p.scopes k s e))) a b f.first g.first

-- a scope that passes has no fault
passing_scope_has_no_fault : (p : Program) (k : ℕ) (s : Scope) (b : Fault) → IsCore p → slice_get p.scopes k ≡ Some s → ScopePasses p k s → IsScopeFault p k s b → ⊥
passing_scope_has_no_fault p k s b core e h g = passing_has_no_fault p k s h.locals g.locals (scope_nodes s) (scope_alike p k s h.locals g.locals (go_down p (core_in_range p core) k) (core.scopes s (In-slice_get p.scopes k s e))) h.nodes b g.first

------------------------------------------------------------
-- The passes over the scopes

abbrev AreScopes : Program → List Numbered → Type 0
AreScopes p ns = (n : Numbered) → In n ns → slice_get p.scopes n.number ≡ Some n.scope

scopes_of_turn : (p : Program) (turn : Turn) → AreScopes p (scopes_of turn 0 p.scopes)
scopes_of_turn p turn = each_of_turn (λ k s. slice_get p.scopes k ≡ Some s) turn 0 p.scopes (λ j s e. (let same : j ≡ 0 + j = omega arith in subst (λ v. slice_get p.scopes v ≡ Some s) same e))

one_scope_end : (p : Program) (n : Numbered) (a b : End) → IsCore p → slice_get p.scopes n.number ≡ Some n.scope → IsScopeEnd p n a → IsScopeEnd p n b → a ≡ b
one_scope_end p n (limited a) (limited b) core e f g = ap (λ v. limited v) (f.0 ∙ sym g.0)
one_scope_end p n (limited a) (refused b) core e f g = absurd (g.0 f.1)
one_scope_end p n (refused a) (limited b) core e f g = absurd (f.0 g.1)
one_scope_end p n (refused a) (refused b) core e f g = ap (λ v. refused v) (one_scope_fault p n.number n.scope a b core e f.1 g.1)

no_end_going_on : (p : Program) (n : Numbered) (a : End) → IsCore p → slice_get p.scopes n.number ≡ Some n.scope → ScopeGoesOn p n → IsScopeEnd p n a → ⊥
no_end_going_on p n (limited a) core e h f = h.within f.1
no_end_going_on p n (refused a) core e h f = passing_scope_has_no_fault p n.number n.scope a core e h.passes f.1

one_first_end : (p : Program) (ns : List Numbered) (a b : End) → IsCore p → AreScopes p ns → FirstEnd p ns a → FirstEnd p ns b → a ≡ b
one_first_end p [] a b core are f g = absurd f
one_first_end p (n ∷ ns) a b core are (inl f) (inl g) = one_scope_end p n a b core (are n (inl refl)) f g
one_first_end p (n ∷ ns) a b core are (inl f) (inr g) = absurd (no_end_going_on p n a core (are n (inl refl)) g.0 f)
one_first_end p (n ∷ ns) a b core are (inr f) (inl g) = absurd (no_end_going_on p n b core (are n (inl refl)) f.0 g)
one_first_end p (n ∷ ns) a b core are (inr f) (inr g) = one_first_end p ns a b core (λ m i. are m (inr i)) f.1 g.1

all_go_on : (p : Program) (ns : List Numbered) (a : End) → IsCore p → AreScopes p ns → AllGoOn p ns → FirstEnd p ns a → ⊥
all_go_on p [] a core are h f = f
all_go_on p (n ∷ ns) a core are h (inl f) = no_end_going_on p n a core (are n (inl refl)) h.0 f
all_go_on p (n ∷ ns) a core are h (inr f) = all_go_on p ns a core (λ m i. are m (inr i)) h.1 f.1

one_first_fault : (p : Program) (ns : List Numbered) (a b : Fault) → IsCore p → AreScopes p ns → FirstFault p ns a → FirstFault p ns b → a ≡ b
one_first_fault p [] a b core are f g = absurd f
one_first_fault p (n ∷ ns) a b core are (inl f) (inl g) = one_scope_fault p n.number n.scope a b core (are n (inl refl)) f g
one_first_fault p (n ∷ ns) a b core are (inl f) (inr g) = absurd (passing_scope_has_no_fault p n.number n.scope a core (are n (inl refl)) g.0 f)
one_first_fault p (n ∷ ns) a b core are (inr f) (inl g) = absurd (passing_scope_has_no_fault p n.number n.scope b core (are n (inl refl)) f.0 g)
one_first_fault p (n ∷ ns) a b core are (inr f) (inr g) = one_first_fault p ns a b core (λ m i. are m (inr i)) f.1 g.1

------------------------------------------------------------
-- Lines

one_line_fault : (p : Program) (k : ℕ) (ss : List Scope) (a b : Fault) → IsLineFaultFrom p k ss a → IsLineFaultFrom p k ss b → a ≡ b
one_line_fault p k [] a b f g = absurd f
one_line_fault p k (s ∷ ss) a b (inl f) (inl g) = one_fault p k s [] [] (lines_nodes s.names) (lines_alike p k s [] [] s.names) a b f g
one_line_fault p k (s ∷ ss) a b (inl f) (inr g) = absurd (passing_has_no_fault p k s [] [] (lines_nodes s.names) (lines_alike p k s [] [] s.names) g.0 a f)
one_line_fault p k (s ∷ ss) a b (inr f) (inl g) = absurd (passing_has_no_fault p k s [] [] (lines_nodes s.names) (lines_alike p k s [] [] s.names) f.0 b g)
one_line_fault p k (s ∷ ss) a b (inr f) (inr g) = one_line_fault p (k + 1) ss a b f.1 g.1

passing_lines_have_no_fault : (p : Program) (k : ℕ) (ss : List Scope) (a : Fault) → LinesPassFrom p k ss → IsLineFaultFrom p k ss a → ⊥
passing_lines_have_no_fault p k [] a h f = f
passing_lines_have_no_fault p k (s ∷ ss) a h (inl f) = passing_has_no_fault p k s [] [] (lines_nodes s.names) (lines_alike p k s [] [] s.names) h.0 a f
passing_lines_have_no_fault p k (s ∷ ss) a h (inr f) = passing_lines_have_no_fault p (k + 1) ss a h.1 f.1

------------------------------------------------------------
-- One end

-- one of the first, or where it goes on past that, one of the rest
abbrev AreOne : (End → Type 0) → Type 0
AreOne Is = (a b : End) → Is a → Is b → a ≡ b

then_one : (First Rest : End → Type 0) (GoesOn : Type 0) → AreOne First → (GoesOn → (a : End) → First a → ⊥) → AreOne Rest → AreOne (λ a. First a ⊎ (GoesOn × Rest a))
then_one First Rest GoesOn one past rest a b (inl f) (inl g) = one a b f g
then_one First Rest GoesOn one past rest a b (inl f) (inr g) = absurd (past g.0 a f)
then_one First Rest GoesOn one past rest a b (inr f) (inl g) = absurd (past f.0 b g)
then_one First Rest GoesOn one past rest a b (inr f) (inr g) = rest a b f.1 g.1

one_limit_end : (p : Program) (ns : List Numbered) → AreOne (IsLimitEnd p ns)
one_limit_end p ns (limited a) (limited b) (inl f) (inl g) = ap (λ v. limited v) (f.0 ∙ sym g.0)
one_limit_end p ns (limited a) (limited b) (inl f) (inr g) = absurd (g.0 f.1)
one_limit_end p ns (limited a) (limited b) (inr f) (inl g) = absurd (f.0 g.1)
one_limit_end p ns (limited a) (limited b) (inr f) (inr g) = ap (λ v. limited v) (f.1 ∙ sym g.1)
one_limit_end p ns (limited a) (refused b) f g = absurd g
one_limit_end p ns (refused a) b f g = absurd f

within_limits : (p : Program) (ns : List Numbered) → KeepsLimits p ns → (a : End) → IsLimitEnd p ns a → ⊥
within_limits p ns h (limited a) (inl f) = h.0 f.1
within_limits p ns h (limited a) (inr f) = h.1 f.2
within_limits p ns h (refused a) f = f

one_line_end : (p : Program) → AreOne (IsLineEnd p)
one_line_end p (limited a) b f g = absurd f
one_line_end p (refused a) (limited b) f g = absurd g
one_line_end p (refused a) (refused b) f g = ap (λ v. refused v) (one_line_fault p 0 p.scopes a b f g)

lines_pass : (p : Program) → LinesPassFrom p 0 p.scopes → (a : End) → IsLineEnd p a → ⊥
lines_pass p h (limited a) f = f
lines_pass p h (refused a) f = passing_lines_have_no_fault p 0 p.scopes a h f

one_body_end : (p : Program) (ns : List Numbered) → IsCore p → AreScopes p ns → AreOne (IsBodyEnd p ns)
one_body_end p ns core are (limited a) b f g = absurd f
one_body_end p ns core are (refused a) (limited b) f g = absurd g
one_body_end p ns core are (refused a) (refused b) f g = ap (λ v. refused v) (one_first_fault p ns a b core are f g)

pub one_end : OneEnd
one_end p a b core =
    let plain = scopes_of plain_modules 0 p.scopes in
    let others = scopes_of other_modules 0 p.scopes in
    let main = scopes_of the_program 0 p.scopes in
    then_one (FirstEnd p plain) _ (AllGoOn p plain) (λ c d f g. one_first_end p plain c d core (scopes_of_turn p plain_modules) f g) (λ h c f. all_go_on p plain c core (scopes_of_turn p plain_modules) h f)
    (then_one (FirstEnd p others) _ (AllGoOn p others) (λ c d f g. one_first_end p others c d core (scopes_of_turn p other_modules) f g) (λ h c f. all_go_on p others c core (scopes_of_turn p other_modules) h f)
    (then_one (IsLimitEnd p main) _ (KeepsLimits p main) (one_limit_end p main) (within_limits p main)
    (then_one (IsLineEnd p) (IsBodyEnd p main) (LinesPassFrom p 0 p.scopes) (one_line_end p) (lines_pass p) (one_body_end p main core (scopes_of_turn p the_program)))))
    a b

------------------------------------------------------------
-- No end where the program is accepted within the limits

none_reach_too_many : (p : Program) (ns : List Numbered) → AreScopes p ns → IsWithinLimits p → SomeReachTooMany p ns → ⊥
none_reach_too_many p [] are h f = f
none_reach_too_many p (n ∷ ns) are h (inl f) = h.types n.number n.scope (are n (inl refl)) f
none_reach_too_many p (n ∷ ns) are h (inr f) = none_reach_too_many p ns (λ m i. are m (inr i)) h f

no_first_end : (p : Program) (ns : List Numbered) (a : End) → AreScopes p ns → ((n : Numbered) → In n ns → ScopeFits p n.scope × ScopeAccepted p n.number n.scope) → IsWithinLimits p → FirstEnd p ns a → ⊥
no_first_end p [] a are ok h f = f
no_first_end p (n ∷ ns) (limited a) are ok h (inl f) = h.types n.number n.scope (are n (inl refl)) f.1
no_first_end p (n ∷ ns) (refused a) are ok h (inl f) = (let o = ok n (inl refl) in accepted_scopes_hold p n.number n.scope a o.0 o.1 f.1)
no_first_end p (n ∷ ns) a are ok h (inr f) = no_first_end p ns a (λ m i. are m (inr i)) (λ m i. ok m (inr i)) h f.1

pub accepted_has_no_end : AcceptedHasNoEnd
accepted_has_no_end p a core accepted h f =
    let are = scopes_of_turn p in
    let ok = λ (turn : Turn). accepted_of_turn p turn core accepted in
    elim f [
      | inl g ↦ no_first_end p (scopes_of plain_modules 0 p.scopes) a (are plain_modules) (ok plain_modules) h g
      | inr g ↦ elim g.1 [
        | inl i ↦ no_first_end p (scopes_of other_modules 0 p.scopes) a (are other_modules) (ok other_modules) h i
        | inr i ↦ elim i.1 [
          | inl j ↦ within_limits p (scopes_of the_program 0 p.scopes) (none_reach_too_many p (scopes_of the_program 0 p.scopes) (are the_program) h, h.instances) a j
          | inr j ↦ elim j.1 [ inl l ↦ no_line_end a l | inr l ↦ no_body_end a l.1 ]
        ]
      ]
    ]
  where
    no_line_end : (a : End) → IsLineEnd p a → ⊥
    no_line_end (limited b) l = l
    no_line_end (refused b) l = accepted_lines_hold p b accepted l

    no_body_end : (a : End) → IsBodyEnd p (scopes_of the_program 0 p.scopes) a → ⊥
    no_body_end (limited b) l = l
    no_body_end (refused b) l = no_first_fault p (scopes_of the_program 0 p.scopes) b (accepted_of_turn p the_program core accepted) l
