-- The code of an `init` or `run` and of a method, from its parts.
use Rattle.std.proofs.Common.{◌≡◌, ℕ, false, List, [], ◌++◌, length, ap, sym, ◌∙◌}
use Rattle.wy_types.specs.Program.{Program, Scope, Body}
use Rattle.wy_code.specs.declared.code.Body as code
use Rattle.wy_code.specs.declared.instruction.Instruction.TheVariants.{Return, Finish}
use Rattle.wy_code.specs.declared.instruction.Placed.{Placed}
use Rattle.wy_meaning.specs.Starts.{Starts}
use Rattle.wy_meaning.specs.Eval.{body_text}
use Rattle.wy_lower.specs.Collected.{Collected}
use Rattle.wy_lower.specs.Inside.{Inside}
use Rattle.wy_lower.specs.Listing.{one, block_listing}
use Rattle.wy_lower.specs.Operands.{block_operands, start_operands}
use Rattle.wy_lower.specs.Lowering.{inside_start, inside_body, body_with, start_name, start_listing, start_code, body_code}
use Rattle.wy_lower.specs.Emits.{Emits, Becomes}

pub start_is : (p : Program) (starts : Starts) (s : Scope) (c : code.Body) (i : Inside) (name : List ℕ) (o1 o2 o3 : Collected Placed) → c ≡ body_with name i (start_operands s.start) o3.list → o3.wanting ≡ false →
    i ≡ inside_start p starts s → name ≡ start_name s.start → Becomes o1 o2 (start_listing i s.start) → Emits o2 o3 (λ at. one s.start_place Finish) → c ≡ start_code p starts s
start_is p starts s c i name o1 o2 o3 e whole inside called f g =
    let most = start_operands s.start in
    let code = g.by whole ∙ ap (λ l. l ++ one s.start_place Finish) (f.is (g.enough whole)) in
    e ∙ ap (λ o. body_with name i most o) code
    ∙ ap (λ t. body_with t i most (start_listing i s.start ++ one s.start_place Finish)) called
    ∙ ap (λ j. body_with (start_name s.start) j most (start_listing j s.start ++ one s.start_place Finish)) inside

module _ (p : Program) (starts : Starts) (s : Scope) (k : ℕ) where
  method_with : Inside → Body → code.Body
  method_with i b = body_with (body_text b.owner b.signature.name) i (block_operands b.block) (block_listing i 0 b.block ++ one b.place Return)

  pub body_is : (c : code.Body) (i : Inside) (b x : Body) (name : List ℕ) (n : ℕ) (o1 o2 o3 : Collected Placed) → c ≡ body_with name i n o3.list → o3.wanting ≡ false → i ≡ inside_body p starts s k b → b ≡ x →
      name ≡ body_text x.owner x.signature.name → n ≡ block_operands x.block → o1.list ≡ [] → Emits o1 o2 (λ at. block_listing i at x.block) → Emits o2 o3 (λ at. one x.place Return) → c ≡ body_code p starts s k b
  unfolding method_with
  body_is c i b x name n o1 o2 o3 e whole inside same called most empty f g =
      let code = g.by whole ∙ ap (λ l. l ++ one x.place Return) (f.by (g.enough whole) ∙ ap (λ l. l ++ block_listing i (length l) x.block) empty) in
      e ∙ ap (λ o. body_with name i n o) code
      ∙ ap (λ t. body_with t i n (block_listing i 0 x.block ++ one x.place Return)) called
      ∙ ap (λ m. body_with (body_text x.owner x.signature.name) i m (block_listing i 0 x.block ++ one x.place Return)) most
      ∙ ap (λ j. method_with j x) inside
      ∙ ap (λ y. method_with (inside_body p starts s k b) y) (sym same)
