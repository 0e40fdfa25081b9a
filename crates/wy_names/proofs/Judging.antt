-- What is noted of all declarations, and what comes of it.
use Rattle.std.proofs.Common.{◌≡◌, List, [], ◌∷◌, ◌++◌, Option, Some, None, refl, sym, ap, ◌∙◌, subst, inl, inr, append_assoc, map, length, arith, Result, Ok, Err}
use Rattle.std.specs.Prelude.{IfOk, IfErr}
use Rattle.wy_text.specs.declared.fault.Place.{Place}
use Rattle.wy_text.specs.Members.{In}
use Rattle.wy_text.proofs.Lists.{In-left, In-right, In-cases}
use Rattle.std.proofs.lemmas.List.{map-append}
use Rattle.wy_types.specs.declared.resolved.Scope as code
use Rattle.wy_types.specs.Program.{Program, Scope, scope_of}
use Rattle.wy_syntax.specs.Trees.{ItemTree}
use Rattle.wy_symbols.specs.declared.refusal.Cause.{Cause}
use Rattle.wy_symbols.specs.declared.refusal.Cause.TheVariants as cause
use Rattle.wy_symbols.specs.declared.refusal.Refusal.{Refusal}
use Rattle.wy_names.specs.declared.refusal.NameRefusal.{NameRefusal}
use Rattle.wy_names.specs.declared.refusal.NameRefusal.TheVariants.{Unknown, Twice, Cycle, NoProgram, TwoPrograms, MemberUndefined, MemberUnknown, Limit, Memory}
use Rattle.wy_symbols.specs.declared.scoping.Head.{Head}
use Rattle.wy_symbols.specs.Least.{IsLeast, noted, refusal_at}
use Rattle.wy_symbols.specs.Declarations.{Declared, declared, types_of, modules_of, programs_of, ModuleTree, ProgramTree, repeated, type_names, module_names}
use Rattle.wy_heads.specs.Counts.{first_passed, limits, limit_of}
use Rattle.wy_symbols.specs.Atoms.{heads_of, primitive_names}
use Rattle.wy_symbols.specs.TypeUses.{declarations_refusals}
use Rattle.wy_heads.specs.Cycles.{IsCycle}
use Rattle.wy_heads.specs.CycleRefusals.{NotesCycles}
use Rattle.wy_names.specs.Scopes.{modules_refusals, programs_refusals, second_programs}
use Rattle.wy_names.specs.Judged.{declared_refusals, NotesScopes, NotesAll, declared_program, RefusesDeclared, IsBound, IsRefusal, refusal_named}
use Rattle.wy_names.specs.Names.{Resolves, Refused}
use Rattle.wy_symbols.proofs.Leasts.{least_is, none_is, noted_then}

pub scopes_noted : (heads : List Head) (modules : List ModuleTree) (programs : List ProgramTree) (old a b c end : Option Refusal) →
    a ≡ noted old (modules_refusals heads modules modules) → b ≡ noted a (programs_refusals heads modules programs) → c ≡ noted b (second_programs programs) →
    NotesCycles modules c end → NotesScopes heads modules programs old end
scopes_noted heads modules programs old a b c end x y z n = record {
  cycles = n.refusals;
  are = n.are;
  noted_are =
      noted_then old a end (modules_refusals heads modules modules) (programs_refusals heads modules programs ++ (second_programs programs ++ n.refusals)) x
      (noted_then a b end (programs_refusals heads modules programs) (second_programs programs ++ n.refusals) y
      (noted_then b c end (second_programs programs) n.refusals z n.noted_are));
}

six : (a b c d e f r : List Refusal) → a ++ (b ++ (c ++ (d ++ (e ++ (f ++ r))))) ≡ (a ++ (b ++ (c ++ (d ++ (e ++ f))))) ++ r
six a b c d e f r =
    sym (
    append_assoc a (b ++ (c ++ (d ++ (e ++ f)))) r
    ∙ ap (λ l. a ++ l) (append_assoc b (c ++ (d ++ (e ++ f))) r
    ∙ ap (λ l. b ++ l) (append_assoc c (d ++ (e ++ f)) r
    ∙ ap (λ l. c ++ l) (append_assoc d (e ++ f) r
    ∙ ap (λ l. d ++ l) (append_assoc e f r))))
    )

pub all_noted : (d : Declared) (old a end : Option Refusal) →
    a ≡ noted old ((repeated primitive_names (type_names d.types) ++ repeated [] (module_names d.modules)) ++ declarations_refusals (heads_of d.types) d.types) →
    NotesScopes (heads_of d.types) d.modules d.programs a end → NotesAll d old end
all_noted d old a end x n =
    let types = repeated primitive_names (type_names d.types) in
    let modules = repeated [] (module_names d.modules) in
    let decls = declarations_refusals (heads_of d.types) d.types in
    let ms = modules_refusals (heads_of d.types) d.modules d.modules in
    let ps = programs_refusals (heads_of d.types) d.modules d.programs in
    let second = second_programs d.programs in
    let rest = ms ++ (ps ++ (second ++ n.cycles)) in
    record {
      cycles = n.cycles;
      are = n.are;
      noted_are =
          noted_then old a end ((types ++ modules) ++ decls) rest x n.noted_are
          ∙ ap (noted old) (append_assoc (types ++ modules) decls rest ∙ append_assoc types modules (decls ++ rest) ∙ six types modules decls ms ps second n.cycles);
    }

refuses_in : (d : Declared) (cycles : List Refusal) → ((r : Refusal) → IsCycle d.modules r → In r cycles) → (r : Refusal) → RefusesDeclared d r → In r (declared_refusals d ++ cycles)
refuses_in d cycles are r (inl i) = In-left r (declared_refusals d) cycles i
refuses_in d cycles are r (inr c) = In-right r (declared_refusals d) cycles (are r c)

pub sound_of : (d : Declared) (least : Option Refusal) → NotesAll d None least → least ≡ None → (r : Refusal) → RefusesDeclared d r → ⊥
sound_of d least n e r h =
    let none = none_is (declared_refusals d ++ n.cycles) (sym n.noted_are ∙ e) in
    let P : List Refusal → Type 0 = λ l. In r l in
    subst P none (refuses_in d n.cycles (λ x. (n.are x).1) r h)

pub least_of : (d : Declared) (least : Option Refusal) (r : Refusal) → NotesAll d None least → least ≡ Some r → IsLeast (RefusesDeclared d) r
least_of d least r n e =
    let l = least_is r (declared_refusals d ++ n.cycles) (sym n.noted_are ∙ e) in
    record {
      among = elim (In-cases r (declared_refusals d) n.cycles l.among) [ inl i ↦ inl i | inr i ↦ inr ((n.are r).0 i) ];
      least = λ x h. l.least x (refuses_in d n.cycles (λ y. (n.are y).1) x h);
    }

pub refusal_is : (d : Declared) (place : Place) (c : Cause) → IsLeast (RefusesDeclared d) (refusal_at place c) → IsRefusal d (refusal_named place c)
refusal_is d place cause.Unknown h = h
refusal_is d place cause.Twice h = h
refusal_is d place cause.Cycle h = h
refusal_is d place cause.TwoPrograms h = h
refusal_is d place cause.MemberUndefined h = h
refusal_is d place cause.MemberUnknown h = h

second_in : (d : Declared) (r : Refusal) → In r (second_programs d.programs) → RefusesDeclared d r
second_in d r i =
    let types = repeated primitive_names (type_names d.types) in
    let modules = repeated [] (module_names d.modules) in
    let decls = declarations_refusals (heads_of d.types) d.types in
    let ms = modules_refusals (heads_of d.types) d.modules d.modules in
    let ps = programs_refusals (heads_of d.types) d.modules d.programs in
    let second = second_programs d.programs in
    inl (In-right r types (modules ++ (decls ++ (ms ++ (ps ++ second)))) (In-right r modules (decls ++ (ms ++ (ps ++ second))) (In-right r decls (ms ++ (ps ++ second)) (In-right r ms (ps ++ second) (In-right r ps second i)))))

one_of_some : (gs : List ProgramTree) → (gs ≡ [] → ⊥) → ((r : Refusal) → In r (second_programs gs) → ⊥) → (g : ProgramTree) × (gs ≡ g ∷ [])
one_of_some [] some none = absurd (some refl)
one_of_some (g ∷ []) some none = (g, refl)
one_of_some (g ∷ h ∷ gs) some none = absurd (none (refusal_at h.place cause.TwoPrograms) (inl refl))

pub bound_is : (d : Declared) (p : Program) → p ≡ declared_program d → (d.programs ≡ [] → ⊥) → ((r : Refusal) → RefusesDeclared d r → ⊥) → IsBound d p
bound_is d p is some sound =
    let one = one_of_some d.programs some (λ r i. sound r (second_in d r i)) in
    record { program = one.0; one = one.1; bound = is; sound = sound }

-- of the items of files
pub resolves : (items : List ItemTree) (d : Declared) (p : Program) → d ≡ declared items → first_passed limits d ≡ None → IsBound d p → Resolves items p
resolves items d p e within b =
    let P : Declared → Type 0 = λ x. IsBound x p in
    let c : IsBound (declared items) p = subst P e b in
    let heads = heads_of (declared items).types in
    record {
      program = c.program;
      one = c.one;
      bound = c.bound ∙ ap (λ gs. with_programs items gs) c.one;
      within = sym (ap (first_passed limits) e) ∙ within;
      sound = c.sound;
    }
  where
    with_programs : List ItemTree → List ProgramTree → Program
    with_programs is gs = declared_program (record { types = (declared is).types; modules = (declared is).modules; programs = gs })

pub refused : (items : List ItemTree) (d : Declared) (r : NameRefusal) → d ≡ declared items → first_passed limits d ≡ None → IsRefusal d r → Refused items r
refused items d r e within h = go r (subst P e h)
  where
    P : Declared → Type 0
    P x = IsRefusal x r

    passed : limit_of items ≡ None
    passed = sym (ap (first_passed limits) e) ∙ within

    go : (r : NameRefusal) → IsRefusal (declared items) r → Refused items r
    go (Unknown p) h = record { within = passed; first = h }
    go (Twice p) h = record { within = passed; first = h }
    go (Cycle p) h = record { within = passed; first = h }
    go NoProgram h = record { none = h.0; within = passed; sound = h.1 }
    go (TwoPrograms p) h = record { within = passed; first = h }
    go (MemberUndefined p) h = record { within = passed; first = h }
    go (MemberUnknown p) h = record { within = passed; first = h }
    go (Limit l) h = absurd h
    go Memory h = h

-- one scope more
pub pushed : (old new : List code.Scope) (s : code.Scope) (one : Scope) (rest left all : List Scope) → new ≡ old ++ s ∷ [] → scope_of s ≡ one → left ≡ one ∷ rest → map scope_of old ++ left ≡ all → map scope_of new ++ rest ≡ all
pushed old new s one rest left all is at from h =
    ap (λ l. map scope_of l ++ rest) is
    ∙ ap (λ l. l ++ rest) (map-append scope_of old (s ∷ []))
    ∙ append_assoc (map scope_of old) (scope_of s ∷ []) rest
    ∙ ap (λ o. map scope_of old ++ (o ∷ rest)) at
    ∙ ap (λ l. map scope_of old ++ l) (sym from)
    ∙ h

pub map_nil : {X Y : Type 0} (f : X → Y) (xs : List X) → map f xs ≡ [] → xs ≡ []
map_nil f [] h = refl
map_nil f (x ∷ xs) h = cc

pub ok_map : {A E : Type 0} (r : Result A E) (P Q : A → Type 0) → ((a : A) → P a → Q a) → IfOk r P → IfOk r Q
ok_map (Ok a) P Q f h = f a h
ok_map (Err e) P Q f h = tt

pub err_map : {A E : Type 0} (r : Result A E) (P Q : E → Type 0) → ((e : E) → P e → Q e) → IfErr r P → IfErr r Q
err_map (Ok a) P Q f h = tt
err_map (Err e) P Q f h = f e h

pub nil_of_length : {X : Type 0} (xs : List X) → length xs ≡ 0 → xs ≡ []
nil_of_length [] h = refl
nil_of_length (x ∷ xs) h = absurd (omega (arith, h))

-- declarations by their three lists
pub declared_is : (items : List ItemTree) (d : Declared) → d.types ≡ types_of items → d.modules ≡ modules_of items → d.programs ≡ programs_of items → d ≡ declared items
declared_is items d a b c =
    ap (λ x. record d { types = x }) a ∙ ap (λ x. record (declared items) { modules = x; programs = d.programs }) b ∙ ap (λ x. record (declared items) { programs = x }) c
