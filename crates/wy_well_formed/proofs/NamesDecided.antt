-- Each text's names resolve, or they are refused for a cause.
use Rattle.std.proofs.Common.{◌≡◌, List, [], ◌∷◌, ◌++◌, Option, None, Some, refl, sym, subst, inl, inr}
use Rattle.wy_text.specs.declared.fault.Place.{Place}
use Rattle.wy_text.specs.declared.limit.LimitName.{LimitName}
use Rattle.wy_syntax.specs.Trees.{ItemTree}
use Rattle.wy_text.specs.Members.{In}
use Rattle.wy_text.proofs.Lists.{In-left, In-right, In-cases}
use Rattle.wy_symbols.specs.declared.refusal.Cause.{Cause}
use Rattle.wy_symbols.specs.declared.refusal.Cause.TheVariants as cause
use Rattle.wy_symbols.specs.declared.refusal.Refusal.{Refusal}
use Rattle.wy_names.specs.declared.refusal.NameRefusal.TheVariants.{Unknown, Twice, Cycle, NoProgram, TwoPrograms, MemberUndefined, MemberUnknown, Limit}
use Rattle.wy_symbols.specs.Least.{IsLeast, noted, refusal_at}
use Rattle.wy_symbols.specs.Declarations.{ProgramTree, types_of, modules_of, programs_of, repeated, type_names, module_names}
use Rattle.wy_heads.specs.Counts.{limit_of}
use Rattle.wy_symbols.specs.Atoms.{heads_of, primitive_names}
use Rattle.wy_symbols.specs.TypeUses.{declarations_refusals}
use Rattle.wy_names.specs.Scopes.{refusals_of, resolved, modules_refusals, programs_refusals, second_programs}
use Rattle.wy_names.specs.Names.{Refuses}
use Rattle.wy_symbols.proofs.Leasts.{least_is, none_is}
use Rattle.wy_well_formed.specs.WellFormed.{IsDecided, RefusedFor}
use Rattle.wy_well_formed.proofs.ReachedMarks.{CyclesAre, cycles_of}

module _ (items : List ItemTree) (within : limit_of items ≡ None) where
  abbrev cycles : CyclesAre (modules_of items)
  cycles = cycles_of (modules_of items)

  abbrev all : List Refusal
  all = refusals_of items ++ cycles.list

  refuses_all : (r : Refusal) → Refuses items r → In r all
  refuses_all r (inl i) = In-left r (refusals_of items) cycles.list i
  refuses_all r (inr c) = In-right r (refusals_of items) cycles.list ((cycles.are r).1 c)

  all_refuse : (r : Refusal) → In r all → Refuses items r
  all_refuse r i = elim (In-cases r (refusals_of items) cycles.list i) [ inl h ↦ inl h | inr h ↦ inr ((cycles.are r).0 h) ]

  named : (place : Place) (c : Cause) → IsLeast (Refuses items) (refusal_at place c) → RefusedFor items
  named place cause.Unknown l = (Unknown place, (λ e. cc), record { within = within; first = l })
  named place cause.Twice l = (Twice place, (λ e. cc), record { within = within; first = l })
  named place cause.Cycle l = (Cycle place, (λ e. cc), record { within = within; first = l })
  named place cause.TwoPrograms l = (TwoPrograms place, (λ e. cc), record { within = within; first = l })
  named place cause.MemberUndefined l = (MemberUndefined place, (λ e. cc), record { within = within; first = l })
  named place cause.MemberUnknown l = (MemberUnknown place, (λ e. cc), record { within = within; first = l })

  second_refused : (r : Refusal) → In r (second_programs (programs_of items)) → Refuses items r
  second_refused r i =
      let types = types_of items in
      let modules = modules_of items in
      let programs = programs_of items in
      let heads = heads_of types in
      let first = repeated primitive_names (type_names types) in
      let names = repeated [] (module_names modules) in
      let declarations = declarations_refusals heads types in
      let ms = modules_refusals heads modules modules in
      let ps = programs_refusals heads modules programs in
      let second = second_programs programs in
      inl (In-right r first (names ++ (declarations ++ (ms ++ (ps ++ second)))) (In-right r names (declarations ++ (ms ++ (ps ++ second))) (In-right r declarations (ms ++ (ps ++ second)) (In-right r ms (ps ++ second) (In-right r ps second i)))))

  sound : all ≡ [] → (r : Refusal) → Refuses items r → ⊥
  sound none r h = (let P : List Refusal → Type 0 = λ l. In r l in subst P none (refuses_all r h))

  by_programs : all ≡ [] → (programs : List ProgramTree) → programs_of items ≡ programs → IsDecided items
  by_programs none [] e = inr (NoProgram, (λ f. cc), record { none = e; within = within; sound = sound none })
  by_programs none (g ∷ []) e = inl (resolved items g, record { program = g; one = e; bound = refl; within = within; sound = sound none })
  by_programs none (g ∷ h ∷ gs) e =
      let r = refusal_at h.place cause.TwoPrograms in
      let P : List ProgramTree → Type 0 = λ l. In r (second_programs l) in
      absurd (sound none r (second_refused r (subst P (sym e) (inl refl))))

  by_least : (o : Option Refusal) → noted None all ≡ o → IsDecided items
  by_least None e = by_programs (none_is all e) (programs_of items) refl
  by_least (Some r) e =
      let l = least_is r all e in
      inr (named r.place r.cause (record { among = all_refuse r l.among; least = λ x h. l.least x (refuses_all x h) }))

pub names_decided : (items : List ItemTree) → IsDecided items
names_decided items = of (limit_of items) refl
  where
    of : (o : Option LimitName) → limit_of items ≡ o → IsDecided items
    of None e = by_least items e (noted None (all items e)) refl
    of (Some l) e = inr (Limit l, (λ f. cc), e)
