-- What judging a form comes to, by what judging its parts came to: the first failing node in the parts, in the order in which
-- they are evaluated, and else the first premise of the form's own rule that is false (docs/LANGUAGE.md, "First failing node").
use Rattle.std.specs.Prelude.{◌≡◌, ℕ, ◌+◌, ◌<◌, ◌↔◌, List, [], ◌∷◌, Option, Some, None, Bool as Truth, true, false, slice_get, if◌then◌else◌}
use Rattle.wy_text.specs.declared.fault.AtomName.{AtomName}
use Rattle.wy_text.specs.declared.fault.Place.{Place}
use Rattle.wy_text.specs.declared.fault.Fault.{Fault}
use Rattle.wy_text.specs.declared.fault.RuleName.{RuleName}
use Rattle.wy_text.specs.declared.fault.RuleName.TheVariants.{TCall, TNew, TIf, TVal, TSet, TOp, TAsc, TBody, MPure, MAscribe}
use Rattle.wy_effects.specs.EffSet.{union}
use Rattle.wy_types.specs.declared.types.TypeRef.{TypeRef}
use Rattle.wy_types.specs.declared.types.TypeRef.TheVariants.{Unit as Nothing, Own}
use Rattle.wy_types.specs.declared.code.UnaryOperator.{UnaryOperator}
use Rattle.wy_types.specs.declared.code.BinaryOperator.{BinaryOperator}
use Rattle.wy_types.specs.declared.code.TextOperator.{TextOperator}
use Rattle.wy_types.specs.declared.resolved.Field.{Field}
use Rattle.wy_types.specs.declared.resolved.OwnName.{OwnName}
use Rattle.wy_types.specs.declared.resolved.Origin.{Origin}
use Rattle.wy_types.specs.declared.resolved.Origin.TheVariants.{Parameter, Grant, Use, Instance, Import}
use Rattle.wy_types.specs.declared.resolved.ScopeKind.{ScopeKind}
use Rattle.wy_types.specs.declared.resolved.ScopeKind.TheVariants.{Pure, Resource, Plain, Program as Main}
use Rattle.wy_premises.specs.Operators.{unary_result, binary_result, text_result}
use Rattle.wy_judge.specs.Inference.{Inference}
use Rattle.wy_judge.specs.Inference as inferred
use Rattle.wy_judge.specs.Fit.{Fit}
use Rattle.wy_judge.specs.Fit as fit
use Rattle.wy_judge.specs.Fits.{Fits}
use Rattle.wy_judge.specs.Fits as fits
use Rattle.wy_judge.specs.Step.{Step}
use Rattle.wy_judge.specs.Step as step

-- a premise of a rule is false at a place; no atom is missing
abbrev pub fault_at : Place → RuleName → ℕ → Fault
fault_at place rule premise = record { place = place; rule = rule; premise = premise; atom = None }

------------------------------------------------------------
-- Operators

abbrev pub operation_outcome : Place → Option TypeRef → List ℕ → Inference
operation_outcome place None e = inferred.Fails (fault_at place TOp 1)
operation_outcome place (Some t) e = inferred.Least t e

abbrev pub unary_outcome : Place → UnaryOperator → Inference → Inference
unary_outcome place op (inferred.Least t e) = operation_outcome place (unary_result op t) e
unary_outcome place op (inferred.Fails fault) = inferred.Fails fault

-- whether the second operand has the first one's type is the truth value
abbrev pub second_outcome : Place → Option TypeRef → Truth → List ℕ → Inference
second_outcome place None same e = inferred.Fails (fault_at place TOp 1)
second_outcome place (Some t) true e = inferred.Least t e
second_outcome place (Some t) false e = inferred.Fails (fault_at place TOp 2)

abbrev pub both_outcome : Place → BinaryOperator → Truth → Inference → Inference → Inference
both_outcome place op same (inferred.Fails fault) z = inferred.Fails fault
both_outcome place op same (inferred.Least t e) (inferred.Fails fault) = inferred.Fails fault
both_outcome place op same (inferred.Least t e) (inferred.Least u f) = second_outcome place (binary_result op t) same (union e f)

-- whether two operands have the same type
abbrev pub IsSame : Inference → Inference → Truth → Type 0
IsSame (inferred.Least t e) (inferred.Least u f) same = (same ≡ true) ↔ (t ≡ u)
IsSame (inferred.Least t e) (inferred.Fails fault) same = Unit {0}
IsSame (inferred.Fails fault) z same = Unit {0}

-- what an operation on two operands comes to
abbrev pub IsBoth : Place → BinaryOperator → Inference → Inference → Inference → Type 0
IsBoth place op x z u = (same : Truth) × IsSame x z same × (u ≡ both_outcome place op same x z)

-- the numbers of premises are small
abbrev pub FewOperands : Fits → Type 0
FewOperands (fits.Have e) = Unit {0}
FewOperands (fits.Misfit n) = n < 3
FewOperands (fits.Fails fault) = Unit {0}

abbrev pub text_outcome : Place → TextOperator → Fits → Inference
text_outcome place op (fits.Have e) = inferred.Least (text_result op) e
text_outcome place op (fits.Misfit n) = inferred.Fails (fault_at place TOp (n + 1))
text_outcome place op (fits.Fails fault) = inferred.Fails fault

------------------------------------------------------------
-- Calls, objects, ascriptions and assignments

-- the premise of a call that is false before its arguments count, and else the method
abbrev pub call_outcome : Place → TypeRef → List ℕ → List ℕ → Fits → Inference
call_outcome place result effect e (fits.Have h) = inferred.Least result (union e (union h effect))
call_outcome place result effect e (fits.Misfit n) = inferred.Fails (fault_at place TCall 4)
call_outcome place result effect e (fits.Fails fault) = inferred.Fails fault

-- premise 1, 2 or 3 is false: the arguments are judged where no type is expected
abbrev pub uncalled_outcome : Place → ℕ → Option Fault → Inference
uncalled_outcome place premise None = inferred.Fails (fault_at place TCall premise)
uncalled_outcome place premise (Some fault) = inferred.Fails fault

abbrev pub new_outcome : Place → ℕ → Fits → Inference
new_outcome place literal (fits.Have e) = inferred.Least (Own literal) e
new_outcome place literal (fits.Misfit n) = inferred.Fails (fault_at place TNew 1)
new_outcome place literal (fits.Fails fault) = inferred.Fails fault

abbrev pub ascribed_outcome : Place → TypeRef → Fit → Inference
ascribed_outcome place t (fit.Has e) = inferred.Least t e
ascribed_outcome place t fit.Misfit = inferred.Fails (fault_at place TAsc 1)
ascribed_outcome place t (fit.Fails fault) = inferred.Fails fault

abbrev pub assigned_outcome : Place → Fit → Inference
assigned_outcome place (fit.Has e) = inferred.Least Nothing e
assigned_outcome place fit.Misfit = inferred.Fails (fault_at place TSet 2)
assigned_outcome place (fit.Fails fault) = inferred.Fails fault

-- the name is no `var` field of the current object
abbrev pub unassigned_outcome : Place → Option Fault → Inference
unassigned_outcome place None = inferred.Fails (fault_at place TSet 1)
unassigned_outcome place (Some fault) = inferred.Fails fault

------------------------------------------------------------
-- Values at a type, and where none is expected

-- whether the least type is a subtype of the expected one is the truth value
abbrev pub fitted_outcome : Truth → Inference → Fit
fitted_outcome true (inferred.Least t e) = fit.Has e
fitted_outcome false (inferred.Least t e) = fit.Misfit
fitted_outcome below (inferred.Fails fault) = fit.Fails fault

abbrev pub probed_outcome : Inference → Option Fault
probed_outcome (inferred.Least t e) = None
probed_outcome (inferred.Fails fault) = Some fault

-- what fails in a part comes first
abbrev pub unless_failing : Fit → Fit → Fit
unless_failing (fit.Has f) otherwise = otherwise
unless_failing fit.Misfit otherwise = otherwise
unless_failing (fit.Fails fault) otherwise = fit.Fails fault

-- the condition is judged at Bool, both branches at the type of the `if`
abbrev pub chosen_second : Place → List ℕ → List ℕ → Fit → Fit
chosen_second place e f (fit.Has g) = fit.Has (union e (union f g))
chosen_second place e f fit.Misfit = fit.Fails (fault_at place TIf 3)
chosen_second place e f (fit.Fails fault) = fit.Fails fault

abbrev pub chosen_first : Place → List ℕ → Fit → Fit → Fit
chosen_first place e (fit.Has f) second = chosen_second place e f second
chosen_first place e fit.Misfit second = unless_failing second (fit.Fails (fault_at place TIf 2))
chosen_first place e (fit.Fails fault) second = fit.Fails fault

abbrev pub misfit_condition : Place → Fit → Fit → Fit
misfit_condition place first second = unless_failing first (unless_failing second (fit.Fails (fault_at place TIf 1)))

abbrev pub chosen_fit : Place → Fit → Fit → Fit → Fit
chosen_fit place (fit.Has e) first second = chosen_first place e first second
chosen_fit place fit.Misfit first second = misfit_condition place first second
chosen_fit place (fit.Fails fault) first second = fit.Fails fault

-- an `if` where no type is expected fails by its parts alone, and its condition by its own nodes
abbrev pub fault_or : Option Fault → Option Fault → Option Fault
fault_or (Some fault) other = Some fault
fault_or None other = other

abbrev pub chosen_fault : Inference → Option Fault → Option Fault → Option Fault
chosen_fault test first second = fault_or (probed_outcome test) (fault_or first second)

------------------------------------------------------------
-- Several values

-- the first value, at its type, and the others; a misfit counts only where no node after it fails
abbrev pub others_fit : List ℕ → Fits → Fits
others_fit e (fits.Have f) = fits.Have (union e f)
others_fit e (fits.Misfit n) = fits.Misfit (n + 1)
others_fit e (fits.Fails fault) = fits.Fails fault

abbrev pub unless_fail : Fits → Fits → Fits
unless_fail (fits.Have f) result = result
unless_fail (fits.Misfit n) result = result
unless_fail (fits.Fails fault) result = fits.Fails fault

abbrev pub more_fits : Fit → Fits → Fits
more_fits (fit.Has e) others = others_fit e others
more_fits fit.Misfit others = unless_fail others (fits.Misfit 0)
more_fits (fit.Fails fault) others = fits.Fails fault

------------------------------------------------------------
-- Several values, as they are judged one after the other

-- what the values before a number come to, and with the one of that number
abbrev pub pushed_value : ℕ → List ℕ → Fit → Fits
pushed_value i e (fit.Has f) = fits.Have (union e f)
pushed_value i e fit.Misfit = fits.Misfit i
pushed_value i e (fit.Fails fault) = fits.Fails fault

-- .. where one before it has not its type
abbrev pub misfit_stays : ℕ → Fit → Fits
misfit_stays n (fit.Has f) = fits.Misfit n
misfit_stays n fit.Misfit = fits.Misfit n
misfit_stays n (fit.Fails fault) = fits.Fails fault

abbrev pub push_fit : Fits → ℕ → Fit → Fits
push_fit (fits.Have e) i u = pushed_value i e u
push_fit (fits.Misfit n) i u = misfit_stays n u
push_fit (fits.Fails fault) i u = fits.Fails fault

-- the values from that number on, after those before it
abbrev pub joined_fits : ℕ → List ℕ → Fits → Fits
joined_fits i e (fits.Have f) = fits.Have (union e f)
joined_fits i e (fits.Misfit n) = fits.Misfit (i + n)
joined_fits i e (fits.Fails fault) = fits.Fails fault

abbrev pub then_fits : ℕ → Fits → Fits → Fits
then_fits i (fits.Have e) rest = joined_fits i e rest
then_fits i (fits.Misfit n) rest = unless_fail rest (fits.Misfit n)
then_fits i (fits.Fails fault) rest = fits.Fails fault

-- no node fails so far
abbrev pub NoneFails : Fits → Type 0
NoneFails (fits.Have e) = Unit {0}
NoneFails (fits.Misfit n) = Unit {0}
NoneFails (fits.Fails fault) = ⊥

------------------------------------------------------------
-- Blocks

-- a statement's effect and what the rest of the block comes to
abbrev pub followed_fit : List ℕ → Fit → Fit
followed_fit e (fit.Has f) = fit.Has (union e f)
followed_fit e fit.Misfit = fit.Misfit
followed_fit e (fit.Fails fault) = fit.Fails fault

-- what a statement comes to that has to have a type of its own: its misfit is premise 1 of its rule
abbrev pub stated_fit : Place → RuleName → Fit → Fit
stated_fit place rule (fit.Has e) = fit.Has e
stated_fit place rule fit.Misfit = fit.Fails (fault_at place rule 1)
stated_fit place rule (fit.Fails fault) = fit.Fails fault

-- .. and the statement by it
abbrev pub stated_step : Place → RuleName → Fit → Step
stated_step place rule (fit.Has e) = step.Done e
stated_step place rule fit.Misfit = step.Fails (fault_at place rule 1)
stated_step place rule (fit.Fails fault) = step.Fails fault

-- what a `val` without a type comes to whose initialiser is an `if`
abbrev pub untyped_fault : Place → Option Fault → Fault
untyped_fault place None = fault_at place TVal 1
untyped_fault place (Some fault) = fault

------------------------------------------------------------
-- Bodies and scopes

-- the second premise of a rule is false, which is about effects, with the name of the atom that is missing
abbrev pub lacking : Place → RuleName → Option AtomName → Fault
lacking place rule atom = record { place = place; rule = rule; premise = 2; atom = atom }

-- .. where one is
abbrev pub lack_fault : Place → RuleName → List AtomName → Option ℕ → Option Fault
lack_fault place rule atoms None = None
lack_fault place rule atoms (Some a) = Some (lacking place rule (slice_get atoms a))

-- what a body comes to, by what its block comes to at the result's type
abbrev pub body_fault : Place → List AtomName → Option ℕ → Fit → Option Fault
body_fault place atoms lack (fit.Has f) = lack_fault place TBody atoms lack
body_fault place atoms lack fit.Misfit = Some (fault_at place TBody 1)
body_fault place atoms lack (fit.Fails fault) = Some fault

-- .. and the initialisers of a module's fields
abbrev pub init_fault : Place → List AtomName → Option ℕ → Fits → Option Fault
init_fault place atoms lack (fits.Have f) = lack_fault place TBody atoms lack
init_fault place atoms lack (fits.Misfit n) = Some (fault_at place TBody 1)
init_fault place atoms lack (fits.Fails fault) = Some fault

-- the first `var` field of a pure module, and its first line
abbrev pub var_fault : List Field → Option Fault
var_fault [] = None
var_fault (f ∷ fs) = if f.mutable then Some (fault_at f.place MPure 1) else var_fault fs

abbrev pub is_line : Origin → Truth
is_line (Parameter bare) = false
is_line Grant = false
is_line (Use m) = false
is_line (Instance m arguments) = true
is_line (Import m arguments bound) = true

abbrev pub line_fault : List OwnName → Option Fault
line_fault [] = None
line_fault (n ∷ ns) = if is_line n.origin then Some (fault_at n.place MPure 2) else line_fault ns

abbrev pub pure_fault : ScopeKind → List Field → List OwnName → Option Fault
pure_fault Pure fields names = fault_or (var_fault fields) (line_fault names)
pure_fault Resource fields names = None
pure_fault Plain fields names = None
pure_fault Main fields names = None

-- a premise of M-Ascribe, with the name of the atom that is missing
abbrev pub seal_fault : Place → ℕ → Option AtomName → Fault
seal_fault place premise atom = record { place = place; rule = MAscribe; premise = premise; atom = atom }
