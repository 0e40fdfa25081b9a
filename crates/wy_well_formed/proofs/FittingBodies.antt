-- The bodies of a module and of the program, where none of their names is refused, are what a core asks.
use Rattle.std.proofs.Common.{◌≡◌, ℕ, ◌<◌, List, [], ◌∷◌, ◌++◌, length, inl, inr, false, Option, Some, None, refl, sym, ap, ap₂, ◌∙◌, subst, arith}
use Rattle.std.specs.Prelude.{slice_get}
use Rattle.wy_syntax.specs.Trees as t
use Rattle.wy_text.specs.Members.{In, Apart}
use Rattle.wy_text.proofs.Lists.{In-at}
use Rattle.wy_types.specs.declared.resolved.Literal.{Literal}
use Rattle.wy_types.specs.declared.code.Variable.TheVariants.{Local}
use Rattle.wy_types.specs.Types.{is_plain, methods_of_owner}
use Rattle.wy_types.specs.Program.{Program, Scope, Body, Start, Init, Run}
use Rattle.wy_types.specs.Core.{StartFits, AreNumbered, CapturesBefore}
use Rattle.wy_types.specs.Vals.{start_vals, bodies_vals, block_vals, values_vals, value_count, literal_fields, literal_captures}
use Rattle.wy_symbols.specs.Declarations.{ProgramTree}
use Rattle.wy_heads.specs.Counts as counts
use Rattle.wy_bodies.specs.Sight.{outermost, inside, parts_write, tail_writes}
use Rattle.wy_bodies.specs.Bodies.{Within, at_start, parts_after, tail_after, part_values, tail_block, literal_of, parts_literals, tail_literals, parts_bodies, tail_bodies}
use Rattle.wy_bodies.specs.BodyRefusals.{repeated_parts, parts_refusals, tail_refusals}
use Rattle.wy_well_formed.proofs.Scoping.{ReadsIn, OfParts, OfBody, FewIn, AllFew, BodiesFit}
use Rattle.wy_well_formed.proofs.Placed.{Lies, lies_itself, Holds, holds_at}
use Rattle.wy_well_formed.proofs.Seeing.{sees_nothing}
use Rattle.wy_well_formed.proofs.Values.{value_for_each, initials_fit, tail_fits}
use Rattle.wy_well_formed.proofs.Methods.{BodyHolds, parts_hold, tail_hold}
use Rattle.wy_well_formed.proofs.Literals.{LiteralHolds, literal_holds, literals_more, parts_literals_hold, tail_literals_hold}
use Rattle.wy_well_formed.proofs.Spreads.{Spread, spread_apart, spread_numbered}
use Rattle.wy_well_formed.proofs.Vals.{parts_spread, tail_spread}
use Rattle.wy_well_formed.proofs.Owners.{Owned, Any, module_owned, tail_owned}
use Rattle.wy_well_formed.proofs.Captured.{captured_before, locals_inside, parts_captured, tail_captured}
use Rattle.wy_well_formed.proofs.Parameters.{CaptureThere, there_inside, capture_there, capture_more, parts_capture, tail_capture}

-- what holds of the literals, the start and the bodies that a scope has
record Parts (p : Program) (s : Scope) (literals : List Literal) (start : Start) (bodies : List Body) : Type 0 where
  pub starts : StartFits p s start
  pub hold : Holds (BodyHolds p s) 0 bodies
  pub literals_hold : (l : Literal) → In l literals → LiteralHolds p s l
  pub own_literal : 0 < length literals
  pub last : ℕ
  pub spread : Spread 0 last (start_vals start) (bodies_vals bodies)
  pub captured : CapturesBefore s (start_vals start) bodies
  pub captured_parameters : CaptureThere s literals
  pub first : ℕ
  pub after : ℕ
  pub owned : Owned Any first after bodies

assembled : (p : Program) (s : Scope) (literals : List Literal) (start : Start) (bodies : List Body) → s.literals ≡ literals → s.start ≡ start → s.bodies ≡ bodies → Parts p s literals start bodies → BodiesFit p s
assembled p s literals start bodies l a b h =
    let all : Holds (BodyHolds p s) 0 s.bodies = subst (Holds (BodyHolds p s) 0) (sym b) h.hold in
    let each : (x : Body) → In x s.bodies → (k : ℕ) × BodyHolds p s k x = λ x i. (let r = In-at x s.bodies i in (r.0, holds_at (BodyHolds p s) s.bodies all r.0 x r.2)) in
    let P : List Literal → Type 0 = λ ls. (x : Literal) → In x ls → LiteralHolds p s x in
    let of : P s.literals = subst P (sym l) h.literals_hold in
    let Q : List Literal → Type 0 = λ ls. 0 < length ls in
    let owned : Owned Any h.first h.after s.bodies = subst (Owned Any h.first h.after) (sym b) h.owned in
    let A : List ℕ → Type 0 = λ ks. Apart ks in
    let N : List ℕ → Type 0 = λ ks. AreNumbered ks in
    let same : start_vals start ++ bodies_vals bodies ≡ start_vals s.start ++ bodies_vals s.bodies = ap₂ (λ c d. start_vals c ++ bodies_vals d) (sym a) (sym b) in
    record {
      starts = subst (StartFits p s) (sym a) h.starts;
      bodies = λ k x e. (holds_at (BodyHolds p s) s.bodies all k x e).fits;
      written = λ x i. (each x i).1.written;
      no_effect = λ plain x i. (each x i).1.no_effect plain;
      fields = λ x i. (of x i).written;
      own_literal = subst Q (sym l) h.own_literal;
      vals = subst A same (spread_apart 0 h.last (start_vals start) (bodies_vals bodies) h.spread);
      numbered = subst N same (spread_numbered h.last (start_vals start) (bodies_vals bodies) h.spread);
      captured = subst (λ c. CapturesBefore s (start_vals c) s.bodies) (sym a) (subst (λ d. CapturesBefore s (start_vals start) d) (sym b) h.captured);
      captured_parameters = subst (λ c. CaptureThere s c) (sym l) h.captured_parameters;
      field_names = λ x i. (of x i).apart;
      method_names = λ k. (owned.good k tt).0;
      few_fields = λ x i. (of x i).few;
      few_methods = λ k. (owned.good k tt).1;
      few_parameters = λ x i. (each x i).1.few;
    }

-- a module
pub parts_fit : (p : Program) (s : Scope) (w : Within) (parts : t.PartTrees) → ReadsIn p s w → OfParts w parts s → repeated_parts parts ≡ [] → parts_refusals w outermost (inside outermost parts) at_start parts ≡ [] →
    AllFew (parts ∷ counts.parts_literals parts) → BodiesFit p s
parts_fit p s w parts read is apart e few =
    let within = inside outermost parts in
    let mine = literal_of w outermost parts in
    let inner = parts_literals w outermost within at_start parts in
    let values = part_values w outermost at_start parts in
    let bodies = parts_bodies w outermost within 0 at_start parts in
    let lie : Lies s.literals 0 (mine ∷ inner) = subst (λ l. Lies l 0 (mine ∷ inner)) (sym is.literals) (lies_itself (mine ∷ inner)) in
    let at : slice_get s.literals 0 ≡ Some mine = lie.0 in
    let rest : Lies s.literals 1 inner = lie.1 in
    let lain : Lies s.bodies 0 bodies = subst (λ l. Lies l 0 bodies) (sym is.bodies) (lies_itself bodies) in
    let own : FewIn parts = few parts (inl refl) in
    let below : AllFew (counts.parts_literals parts) = λ qs i. few qs (inr i) in
    let positive : 0 < at_start.literals = omega arith in
    let P : Option Literal → Type 0 = λ o. value_count values ≡ length (literal_fields o) in
    let Q : Option Literal → Type 0 = λ o. (k : ℕ) → In (Local k) (literal_captures o) → In k (values_vals values) in
    assembled p s (mine ∷ inner) (Init values) bodies is.literals is.start is.bodies (record {
      starts = (subst P (sym at) (value_for_each w outermost at_start parts), initials_fit p s w read None [] outermost within at_start parts (sees_nothing s (λ x. parts_write x parts)) e positive rest);
      hold = parts_hold p s w read outermost parts 0 at_start parts at (λ x h. h) own.parameters e positive rest below;
      literals_hold = literals_more p s w read mine inner (literal_holds p s w read outermost within at_start parts apart e own) (parts_literals_hold p s w read outermost within at_start parts e below);
      own_literal = omega arith;
      last = (parts_after at_start parts).vals;
      spread = parts_spread w outermost within 0 at_start parts;
      captured = parts_captured s w (values_vals values) outermost within 0 at_start parts (λ x k i b. absurd i) (locals_inside (values_vals values) outermost parts (λ x k i b. absurd i)) (subst Q (sym at) (captured_before (values_vals values) outermost parts (λ x k i b. absurd i))) (λ k i. i) rest;
      captured_parameters =
          capture_more s mine inner (capture_there s outermost parts (λ x k i m b. absurd m))
          (parts_capture s w outermost within 0 at_start parts (λ x k i m b. absurd m) (there_inside s outermost parts (λ x k i m b. absurd m)) lain);
      first = 0;
      after = (parts_after at_start parts).literals;
      owned = module_owned w at_start parts outermost 0 refl apart e own below;
    })

-- the program, whose own literal has no fields and no methods
pub no_own_bodies : (s : Scope) (w : Within) (g : ProgramTree) → OfBody w g s → tail_refusals w outermost at_start g.body ≡ [] → AllFew (counts.tail_literals g.body) → methods_of_owner 0 s.bodies ≡ []
no_own_bodies s w g is e few = ap (methods_of_owner 0) is.bodies ∙ (tail_owned w outermost at_start g.body e few).below 0 tt (omega arith)

pub body_fits : (p : Program) (s : Scope) (w : Within) (g : ProgramTree) → ReadsIn p s w → OfBody w g s → is_plain s.kind ≡ false → tail_refusals w outermost at_start g.body ≡ [] → AllFew (counts.tail_literals g.body) → BodiesFit p s
body_fits p s w g read is unplain e few =
    let mine : Literal = record { captures = []; fields = [] } in
    let inner = tail_literals w outermost at_start g.body in
    let block = tail_block w g.run outermost at_start g.body in
    let bodies = tail_bodies w outermost at_start g.body in
    let lie : Lies s.literals 0 (mine ∷ inner) = subst (λ l. Lies l 0 (mine ∷ inner)) (sym is.literals) (lies_itself (mine ∷ inner)) in
    let rest : Lies s.literals 1 inner = lie.1 in
    let lain : Lies s.bodies 0 bodies = subst (λ l. Lies l 0 bodies) (sym is.bodies) (lies_itself bodies) in
    let positive : 0 < at_start.literals = omega arith in
    assembled p s (mine ∷ inner) (Run block) bodies is.literals is.start is.bodies (record {
      starts = tail_fits p s w read None g.run [] outermost at_start g.body (sees_nothing s (λ x. tail_writes x g.body)) e positive rest;
      hold = tail_hold p s w read outermost at_start g.body e positive rest few;
      literals_hold = literals_more p s w read mine inner (record { written = λ k i. absurd i; apart = tt; few = omega arith }) (tail_literals_hold p s w read outermost at_start g.body e few);
      own_literal = omega arith;
      last = (tail_after at_start g.body).vals;
      spread = tail_spread w g.run outermost at_start g.body;
      captured = tail_captured s w (block_vals block) g.run outermost at_start g.body (λ x k i b. absurd i) (λ k i. i) rest;
      captured_parameters = capture_more s mine inner (λ k i m. absurd m) (tail_capture s w outermost at_start g.body (λ x k i m b. absurd m) lain);
      first = 1;
      after = (tail_after at_start g.body).literals;
      owned = tail_owned w outermost at_start g.body e few;
    })
