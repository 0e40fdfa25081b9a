-- What is found in a module's fields and methods, and in the program's block, where nothing is in sight.
use Rattle.std.proofs.Common.{◌≡◌, List, [], ◌∷◌, ◌++◌, true, false, sym, ap, ap₂, ◌∙◌, Option}
use Rattle.wy_syntax.specs.Trees as t
use Rattle.wy_types.specs.declared.code.Variable.{Variable}
use Rattle.wy_types.specs.declared.resolved.Field.{Field}
use Rattle.wy_types.specs.declared.resolved.Literal.{Literal}
use Rattle.wy_symbols.specs.declared.refusal.Refusal.{Refusal}
use Rattle.wy_symbols.specs.Declarations.{texts}
use Rattle.wy_symbols.specs.Least.{noted}
use Rattle.wy_bodies.specs.Sight.{outermost, inside, written_of}
use Rattle.wy_bodies.specs.InSight.{Known, entries, Frame, frame, sight_of}
use Rattle.wy_bodies.specs.Bodies.{Within, at_start, parts_after, tail_after, fields_of, literal_of, parts_literals, parts_bodies, tail_literals, tail_bodies}
use Rattle.wy_bodies.specs.BodyRefusals.{field_names, repeated_parts, parts_refusals, tail_refusals}
use Rattle.wy_bodies.specs.FoundBodies.{Found, begun, after_parts, after_tail}
use Rattle.wy_symbols.proofs.Leasts.{noted_append}
use Rattle.wy_bodies.proofs.Walks.{made, inside_is}

literal : List Variable → List Field → Literal
literal captures fields = record { captures = captures; fields = fields }

pub outermost_is : (fr : Frame) (ks : List Known) → ks ≡ [] → fr ≡ frame 0 [] false → sight_of fr ks ≡ outermost
outermost_is fr ks nothing no_object = ap₂ sight_of no_object nothing

pub inside_outermost : (inner : Frame) (ks : List Known) (ps : t.PartTrees) → ks ≡ [] → inner ≡ frame 0 (texts (field_names ps)) true → sight_of inner ks ≡ inside outermost ps
inside_outermost inner ks ps nothing object = ap₂ sight_of object nothing ∙ inside_is (frame 0 [] false) [] ps

module _ (w : Within) where
  pub first_literal : (ks : List Known) (ps : t.PartTrees) (l : Literal) → ks ≡ [] → l.captures ≡ written_of (entries ks) ps → l.fields ≡ fields_of w ps → l ≡ literal_of w outermost ps
  unfolding literal
  first_literal ks ps l nothing hc hd = ap₂ literal (hc ∙ ap (λ k. written_of (entries k) ps) nothing) hd

  pub program_found : (b : t.TailTree) (f h : Found) (l m : Literal) (o : Option Refusal) → f ≡ begun l o → l ≡ m → h ≡ after_tail w outermost f b →
      h ≡ made (tail_after at_start b) (m ∷ tail_literals w outermost at_start b) (tail_bodies w outermost at_start b) (noted o (tail_refusals w outermost at_start b))
  program_found b f h l m o hf hl hh = hh ∙ ap (λ g. after_tail w outermost g b) (hf ∙ ap (λ x. begun x o) hl)

  pub module_found : (ps : t.PartTrees) (f h : Found) (o p : Option Refusal) → f ≡ begun (literal_of w outermost ps) p → p ≡ noted o (repeated_parts ps) →
      h ≡ after_parts w outermost (inside outermost ps) 0 f ps →
      h ≡ made (parts_after at_start ps) (literal_of w outermost ps ∷ parts_literals w outermost (inside outermost ps) at_start ps) (parts_bodies w outermost (inside outermost ps) 0 at_start ps)
      (noted o (repeated_parts ps ++ parts_refusals w outermost (inside outermost ps) at_start ps))
  module_found ps f h o p hf hp hh =
      let q = after_parts w outermost (inside outermost ps) 0 (begun (literal_of w outermost ps) p) ps in
      hh
      ∙ ap (λ g. after_parts w outermost (inside outermost ps) 0 g ps) (hf ∙ ap (begun (literal_of w outermost ps)) hp)
      ∙ ap (made q.count q.literals q.bodies) (sym (noted_append o (repeated_parts ps) (parts_refusals w outermost (inside outermost ps) at_start ps)))
