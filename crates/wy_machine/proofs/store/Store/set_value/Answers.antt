use Rattle.std.proofs.Common.{List, length, Some, set, refl, sym, ap, ◌∙◌, subst}
use Rattle.std.specs.Prelude.{slice_get, IsSome}
use Rattle.std.proofs.lemmas.List.{length-set}
use Rattle.std.proofs.lemmas.Option.{slice_get_read}
use Rattle.wy_code.specs.Stores.{Thing, value_in}
use Rattle.wy_machine.specs.StoreStates.{AreKept, object_set}
use Rattle.wy_machine.specs.StoreState.{StoreState}
use Rattle.wy_machine.proofs.Refilling.{kept_set, object_within}
use Rattle.wy_machine.proofs.store.Store.set_value.Goals as goal

pub invariant_of-self : goal.invariant_of-self
invariant_of-self c =
    let s = c.self.inside in
    let old = c.index_mut.result.now in
    let there = subst (λ (w : StoreState). IsSome (value_in (slice_get w.objects c.args.object) c.args.at)) (sym c.self.view_is) c.requires in
    let within = object_within s.objects.items c.args.object c.args.at there in
    let here = slice_get_read s.objects.items (length s.objects.items) c.args.object old refl within c.index_mut.ensures.value in
    subst (λ (t : Thing). AreKept s.first.items (set s.objects.items c.args.object t)) (sym c.set.ensures)
    (kept_set s.first.items s.objects.items c.args.object old (set old.values c.args.at c.args.word) c.self.invariant here (length-set old.values c.args.at c.args.word))

pub returns : goal.returns
returns c =
    let s = c.self.inside in
    let old = c.index_mut.result.now in
    let there = subst (λ (w : StoreState). IsSome (value_in (slice_get w.objects c.args.object) c.args.at)) (sym c.self.view_is) c.requires in
    let within = object_within s.objects.items c.args.object c.args.at there in
    let here = slice_get_read s.objects.items (length s.objects.items) c.args.object old refl within c.index_mut.ensures.value in
    let with_objects = λ (objects : List Thing). let w : StoreState = record { objects = objects; made = s.made; texts = s.texts.items; next = s.next; first = s.first.items } in w in
    ap (λ (t : Thing). Some (with_objects (set s.objects.items c.args.object t))) c.set.ensures
    ∙ sym (ap (object_set c.args.object c.args.at c.args.word (with_objects s.objects.items)) here)
    ∙ ap (λ (w : StoreState). object_set c.args.object c.args.at c.args.word w (slice_get w.objects c.args.object)) c.self.view_is
