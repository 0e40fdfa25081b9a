-- Where all numbers of a file name what is there, those of its code's instructions do.
use Rattle.std.proofs.Common.{◌≡◌, ℕ, zero, suc, List, [], ◌∷◌, map, inl, inr, refl, sym, ap, ◌∙◌, subst, Option, Some}
use Rattle.std.proofs.Common.{None, arith}
use Rattle.std.specs.Prelude.{slice_get}
use Rattle.wy_text.specs.Members.{In}
use Rattle.wy_text.proofs.Lists.{In-slice_get, In-unmap}
use Rattle.wy_code.specs.declared.code.Body as code_body
use Rattle.wy_code.specs.declared.code.Instance as code_instance
use Rattle.wy_code.specs.declared.code.Scope as code_scope
use Rattle.wy_code.specs.declared.instruction.Placed.{Placed}
use Rattle.wy_code.specs.Machine.{all_instances, literal_of, scope_in, literal_of_scope}
use Rattle.wy_image.specs.declared.file.Body.{Body}
use Rattle.wy_image.specs.declared.file.Constant.TheVariants as raw
use Rattle.wy_image.specs.declared.file.ImageFile.{ImageFile}
use Rattle.wy_image.specs.declared.file.Instruction.{Instruction}
use Rattle.wy_image.specs.declared.file.Instruction.TheVariants as does
use Rattle.wy_image.specs.declared.file.Literal.{Literal}
use Rattle.wy_image.specs.declared.file.Row.{Row}
use Rattle.wy_image.specs.declared.typing.Bounds.{Bounds}
use Rattle.wy_verified.specs.CodeOf as from
use Rattle.wy_verified.specs.CodeOf.{without, primitive_methods, instruction_text, rows_texts, bodies_texts, texts_of}
use Rattle.wy_verified.specs.CodeOf.{typings_of, instruction_of, placed_of, instance_of, literals_of, scope_of, code_of}
use Rattle.wy_verified.specs.CodeOf.{image_of}
use Rattle.wy_verified.specs.Ranges.{Role, roles_of, InstructionInRange, MadeInRange, IsInRange}
use Rattle.wy_verified.specs.Rules.{Owner}
use Rattle.wy_verified.specs.Walking.{IsSomeLiteral, RangeOk}
use Rattle.wy_text.proofs.Lists.{In-left, In-right}
use Rattle.wy_verified.proofs.Lists.{read_there, read_first, none_some, some_same, get_map, map_length}
use Rattle.wy_verified.proofs.Tables.{number_less, once_in}
use Rattle.wy_verified.proofs.Files.{IsUnit}

row_text : (rs : List Row) (r : Row) (t : List ℕ) → In r rs → In t (instruction_text r.instruction) →
    In t (rows_texts rs)
row_text [] r t h i = absurd h
row_text (q ∷ rs) r t (inl e) i =
    In-left t (instruction_text q.instruction) (rows_texts rs)
    (subst (λ (r : Row). In t (instruction_text r.instruction)) (sym e) i)
row_text (q ∷ rs) r t (inr h) i = In-right t (instruction_text q.instruction) (rows_texts rs) (row_text rs r t h i)

body_text : (bs : List Body) (k : ℕ) (b : Body) (t : List ℕ) → slice_get bs k ≡ Some b → In t (rows_texts b.rows) →
    In t (bodies_texts bs)
body_text [] k b t e i = absurd (none_some e)
body_text (c ∷ bs) zero b t e i =
    In-left t (rows_texts c.rows) (bodies_texts bs)
    (subst (λ (b : Body). In t (rows_texts b.rows)) (sym (some_same e)) i)
body_text (c ∷ bs) (suc k) b t e i = In-right t (rows_texts c.rows) (bodies_texts bs) (body_text bs k b t e i)

module _ (file : ImageFile) (x : ℕ) (i : code_instance.Instance)
    (is : slice_get (all_instances (code_of file)) x ≡ Some i) (u : IsUnit file x i) where
  literal_there : (l : ℕ) → literal_of (code_of file) x l ≡ slice_get (literals_of u.scope) l
  literal_there l =
      ap (λ (o : Option code_instance.Instance). literal_of_scope (scope_in (code_of file) o) l) is ∙
      ap (λ (o : Option code_scope.Scope). literal_of_scope o l) (get_map scope_of file.scopes i.scope u.scope u.there)

  made : (o : Owner) (b : Body) (l : ℕ) → MadeInRange file u.scope o b (slice_get u.scope.literals l) →
      IsSomeLiteral (literal_of (code_of file) x (suc l))
  made o b l h = of (slice_get u.scope.literals l) refl h
    where
      of : (q : Option Literal) → slice_get u.scope.literals l ≡ q → MadeInRange file u.scope o b q →
          IsSomeLiteral (literal_of (code_of file) x (suc l))
      of None e r = absurd r
      of (Some literal) e r =
          subst IsSomeLiteral (sym (literal_there (suc l) ∙ get_map from.literal_of u.scope.literals l literal e)) tt

  module _ (o : Owner) (k : ℕ) (raw_body : Body) (there : slice_get file.bodies k ≡ Some raw_body)
      (body : code_body.Body) (n : Bounds) (held : ℕ) where
    named : (row : Row) → In row raw_body.rows → (q : Instruction) → row.instruction ≡ q →
        InstructionInRange file u.scope o raw_body q →
        RangeOk (image_of file) x o body n held (instruction_of (texts_of file) q)
    named row at (does.Push (raw.Text t)) e h =
        number_less (texts_of file) t (once_in (bodies_texts file.bodies) t (body_text file.bodies k raw_body t there
        (row_text raw_body.rows row t at (subst (λ (q : Instruction). In t (instruction_text q)) (sym e) (inl refl)))))
    named row at (does.Push (raw.Instance y)) e h = let l = map_length instance_of file.instances in omega (arith, h, l)
    named row at (does.Push (raw.Int m)) e h = tt
    named row at (does.Push (raw.Truth b)) e h = tt
    named row at (does.Push raw.Unit) e h = tt
    named row at (does.Push (raw.Grant g)) e h = tt
    named row at (does.New l) e h = ((λ z. cc), made o raw_body l h)
    named row at (does.Load s) e h = tt
    named row at (does.Store s) e h = tt
    named row at (does.Get m) e h = tt
    named row at (does.Set m) e h = tt
    named row at does.Drop e h = tt
    named row at (does.Op p) e h = tt
    named row at (does.Jump to) e h = tt
    named row at (does.JumpFalse to) e h = tt
    named row at (does.Call m c) e h =
        let r = read_there file.methods m h in read_first file.methods (without file.methods primitive_methods) m r.0
        r.1 ∙ sym r.1
    named row at does.Return e h = tt
    named row at does.Finish e h = tt

-- each instruction of a body that stands in a scope of an instance
pub instructions_name : (file : ImageFile) → IsInRange file → (x : ℕ) (i : code_instance.Instance) →
    slice_get (all_instances (code_of file)) x ≡ Some i → (u : IsUnit file x i) →
    (r : Role) → In r (roles_of u.scope) → (raw_body : Body) → slice_get file.bodies r.1 ≡ Some raw_body →
    (body : code_body.Body) (n : Bounds) (held at : ℕ) (p : Placed) →
    slice_get (map (placed_of (texts_of file)) raw_body.rows) at ≡ Some p →
    RangeOk (image_of file) x r.0 body n held p.instruction
instructions_name file range x i is u r h raw_body there body n held at p e =
    let q = In-unmap (placed_of (texts_of file)) p raw_body.rows
    (In-slice_get (map (placed_of (texts_of file)) raw_body.rows) at p e) in
    let row = (range.scopes u.scope (In-slice_get file.scopes i.scope u.scope u.there)).rows r raw_body q.0 h there
    q.1 in
    subst (λ (p : Placed). RangeOk (image_of file) x r.0 body n held p.instruction) q.2
    (named file x i is u r.0 r.1 raw_body there body n held q.0 q.1 q.0.instruction refl row.instruction)
