-- Old items are judged alike over both tables of primitive types, and mean the same in both editions.
use Rattle.std.proofs.Common.{codes, ◌≡◌, ◌≢◌, ◌⊎◌, ℕ, zero, suc, List, [], ◌∷◌, map, inl, inr, refl, sym, ◌∙◌, ap, subst, Option, Some, None, lit≤}
use Rattle.std.specs.Prelude.{slice_get, length}
use Rattle.std.specs.List.{AllByRecursion}
use Rattle.wy_text.specs.declared.fault.Place.{Place}
use Rattle.wy_text.specs.declared.token.TokenKind.TheVariants as kind
use Rattle.wy_syntax.specs.OwnWords.{IsWord}
use Rattle.wy_syntax.specs.Tokens.{Tok}
use Rattle.wy_syntax.specs.Trees.{ItemTree}
use Rattle.wy_text.specs.Members.{In}
use Rattle.wy_text.proofs.Lists.{In-cases, In-slice_get, In-unmap}
use Rattle.wy_types.specs.declared.linked.Instance.{Instance as Began}
use Rattle.wy_types.specs.declared.resolved.Origin.{Origin}
use Rattle.wy_types.specs.declared.resolved.Origin.TheVariants as origin
use Rattle.wy_types.specs.declared.resolved.OwnName.{OwnName}
use Rattle.wy_syntax.specs.declared.items.TypeDecl.{TypeDecl}
use Rattle.wy_types.specs.declared.types.TypeRef.{TypeRef}
use Rattle.wy_types.specs.declared.types.TypeRef.TheVariants.{Int, Bool, Text, Unit as Nothing, Named, At, Own}
use Rattle.wy_types.specs.Core.{IsCore}
use Rattle.wy_types.specs.Ground.{start_list}
use Rattle.wy_types.specs.Primitive.{former_types, primitive_types}
use Rattle.wy_types.specs.Program.{Program, Scope}
use Rattle.wy_symbols.specs.declared.refusal.Refusal.{Refusal}
use Rattle.wy_symbols.specs.declared.scoping.Head.{Head}
use Rattle.wy_symbols.specs.Atoms.{heads_over}
use Rattle.wy_symbols.specs.TypeUses.{declaration}
use Rattle.wy_symbols.specs.Declarations.{ModuleTree, ProgramTree, modules_of, programs_of, types_of}
use Rattle.wy_names.specs.Names.{RefusesOver, ResolvesOver}
use Rattle.wy_names.specs.Scopes.{resolved_over, scope_of_module, scope_of_program}
use Rattle.wy_well_formed.specs.WellFormed.{ResolvedIsCore}
use Rattle.wy_rules.specs.Acceptance.{Accepted}
use Rattle.wy_rules.specs.Ends.{IsWithinLimits}
use Rattle.wy_rules.specs.Transfer.{DiffersAt, LeavesOut, NamesNot, WritesNot}
use Rattle.wy_authority.specs.declared.rows.Authority.{Authority}
use Rattle.wy_authority.specs.Authority.{authority_of}
use Rattle.wy_device.specs.Editions.{current, former, primitive_numbered}
use Rattle.wy_device.specs.RunEnds.{Trap}
use Rattle.wy_device.specs.Traps.{LongText}
use Rattle.wy_meaning.specs.Starts.{grant_from, grant_named, grant_of_primitive, last_scope, primitive_of_type, scope_names, started_of, starts_of, Starts}
use Rattle.wy_meaning.specs.Start.{meaning}
use Rattle.wy_meaning.specs.Widening.{HaveSameGrants, LongerTextsChangeNothingElse, in_edition}
use Rattle.wy_sound.specs.Programs.{program_starts}
use Rattle.wy_editions.specs.Editions.{AreAccepted, AreJudged, AreOld, IsOther, OldItemsAreAcceptedAlike, OldItemsAreJudgedAlike, OldItemsMeanTheSame}
use Rattle.wy_editions.proofs.Alike.{HeadsAlike}
use Rattle.wy_editions.proofs.CountsOver.{limit_same}
use Rattle.wy_editions.proofs.Gathered.{blocks_have, decls_have, modules_have}
use Rattle.wy_editions.proofs.HeadsOver.{IsOld, heads_alike}
use Rattle.wy_editions.proofs.InstancesKept.{starts_same}
use Rattle.wy_editions.proofs.JudgedAlike.{GoesOver, goes_over}
use Rattle.wy_editions.proofs.NamesSpelled.{NamesAre, item_has}
use Rattle.wy_editions.proofs.ScopesFit.{scope_fits}
use Rattle.wy_editions.proofs.ScopesSame.{refusals_same, scopes_same}
use Rattle.wy_editions.proofs.SymbolsAlike.{declarations_same}
use Rattle.wy_editions.proofs.TypeNames.{BlockHas, BlocksHave, DeclsHave, ItemsHave, ModuleHas, ModulesHave}
use Rattle.wy_editions.proofs.TypesLeft.{module_writes_not, program_writes_not, sealed_not}
use Rattle.wy_editions.proofs.TypesOver.{count_over, differs_back, differs_over}

------------------------------------------------------------
-- Names of old items

-- a word has no space in it
old_word : (w : List ℕ) → IsOther (codes "FullFolder") w → IsOld w
old_word w h = (h.1, λ e. (let g : IsWord (codes "no type") = subst IsWord e h.0 in g.0.1.1.0.0 refl))

old_words : (ts : List Tok) → AllByRecursion (λ (t : Tok). (w : List ℕ) → t.kind ≡ kind.Name w → IsOther (codes "FullFolder") w) ts → NamesAre IsOld ts
old_words [] h = tt
old_words (t ∷ ts) h = (λ w e. old_word w (h.0 w e), old_words ts h.1)

items_have : (is : List ItemTree) → AreOld is → ItemsHave IsOld is
items_have [] h = tt
items_have (i ∷ is) h = (item_has IsOld i h.0.0 h.0.1 (old_words h.0.0 h.0.2), items_have is h.1)

module _ (Ok : List ℕ → Type 0) where
  module_has : (ms : List ModuleTree) (m : ModuleTree) → ModulesHave Ok ms → In m ms → ModuleHas Ok m
  module_has [] m h j = absurd j
  module_has (n ∷ ms) m h (inl e) = subst (ModuleHas Ok) e h.0
  module_has (n ∷ ms) m h (inr j) = module_has ms m h.1 j

module _ (resolved_is_core : ResolvedIsCore) (items : List ItemTree) (old : AreOld items) where
  abbrev types : List TypeDecl
  types = types_of items

  abbrev modules : List ModuleTree
  modules = modules_of items

  -- the heads of types in both editions
  abbrev hs : List Head
  hs = heads_over former_types types

  abbrev gs : List Head
  gs = heads_over primitive_types types

  has : ItemsHave IsOld items
  has = items_have items old

  declared : DeclsHave IsOld types
  declared = decls_have IsOld items has

  of_modules : ModulesHave IsOld modules
  of_modules = modules_have IsOld items has

  of_blocks : BlocksHave IsOld (programs_of items)
  of_blocks = blocks_have IsOld items has

  alike : HeadsAlike IsOld 4 hs gs
  alike = heads_alike types

  ------------------------------------------------------------
  -- The programs

  module _ (g : ProgramTree) (one : programs_of items ≡ g ∷ []) where
    abbrev before : Program
    before = resolved_over former_types items g

    abbrev after : Program
    after = resolved_over primitive_types items g

    of_program : BlockHas IsOld g
    of_program = let h : BlocksHave IsOld (g ∷ []) = subst (BlocksHave IsOld) one of_blocks in h.0

    same : before.scopes ≡ after.scopes
    same = scopes_same items g of_modules of_program

    -- no scope writes the type of number 4, or is sealed at it
    record IsClear (s : Scope) : Type 0 where
      writes : WritesNot 4 s
      sealed : (d : ℕ) → s.ascribed ≡ Some d → d ≡ 4 → ⊥

    clear : (s : Scope) → In s before.scopes → IsClear s
    clear s j = of (In-cases s (map (scope_of_module hs modules) modules) (scope_of_program hs modules g ∷ []) j)
      where
        of : In s (map (scope_of_module hs modules) modules) ⊎ In s (scope_of_program hs modules g ∷ []) → IsClear s
        of (inl q) =
            let r = In-unmap (scope_of_module hs modules) s modules q in
            let ok = module_has IsOld modules r.0 of_modules r.1 in
            let it : IsClear (scope_of_module hs modules r.0) =
            record {
              writes = module_writes_not IsOld 4 hs alike.number_not modules of_modules r.0 ok;
              sealed = sealed_not IsOld 4 hs alike.number_not modules r.0 ok;
            } in
            subst IsClear r.2 it
        of (inr (inl e)) =
            let it : IsClear (scope_of_program hs modules g) =
            record { writes = program_writes_not IsOld 4 hs alike.number_not modules of_modules g of_program; sealed = λ d q. cc } in
            subst IsClear e it
        of (inr (inr j)) = absurd j

    clear_at : (k : ℕ) (s : Scope) → slice_get before.scopes k ≡ Some s → IsClear s
    clear_at k s e = clear s (In-slice_get before.scopes k s e)

    clear_after : (k : ℕ) (s : Scope) → slice_get after.scopes k ≡ Some s → IsClear s
    clear_after k s e = clear_at k s (ap (λ (ss : List Scope). slice_get ss k) same ∙ e)

    declared_same : map (declaration hs) types ≡ map (declaration gs) types
    declared_same = declarations_same IsOld 4 hs gs alike types declared

    onward : DiffersAt 4 before after
    onward = differs_over before after hs gs types same refl refl declared_same declared alike.number_not

    back : DiffersAt 4 after before
    back = differs_back before after hs gs types same refl refl declared_same declared (λ x ok d e. alike.number_not x ok d (alike.numbers x ok ∙ e))

    one_count : length before.declarations ≡ length after.declarations
    one_count = count_over before after hs gs types same refl refl declared_same declared

    module _ (resolves : ResolvesOver primitive_types items after) where
      is_core : IsCore after
      is_core = resolved_is_core items after resolves

      left_after : (k : ℕ) (s : Scope) → slice_get after.scopes k ≡ Some s → LeavesOut 4 after s
      left_after k s e =
          let c = clear_after k s e in
          record { fits = is_core.scopes s (In-slice_get after.scopes k s e); writes = c.writes; sealed = c.sealed }

      left_before : (k : ℕ) (s : Scope) → slice_get before.scopes k ≡ Some s → LeavesOut 4 before s
      left_before k s e =
          let c = clear_at k s e in
          let j : In s after.scopes = subst (In s) same (In-slice_get before.scopes k s e) in
          record { fits = scope_fits 4 after before s back (sym one_count) c.writes c.sealed (is_core.scopes s j); writes = c.writes; sealed = c.sealed }

      goes_onward : GoesOver before after
      goes_onward = goes_over 4 before after onward left_before

      goes_back : GoesOver after before
      goes_back = goes_over 4 after before back left_after

    ------------------------------------------------------------
    -- The names resolve over the one table where they do over the other

    refused_before : (r : Refusal) → RefusesOver primitive_types items r → RefusesOver former_types items r
    refused_before r (inl j) = inl (subst (In r) (sym (refusals_same items declared of_modules of_blocks)) j)
    refused_before r (inr c) = inr c

    refused_after : (r : Refusal) → RefusesOver former_types items r → RefusesOver primitive_types items r
    refused_after r (inl j) = inl (subst (In r) (refusals_same items declared of_modules of_blocks) j)
    refused_after r (inr c) = inr c

    resolves_after : (p : Program) → ResolvesOver former_types items p → ResolvesOver primitive_types items after
    resolves_after p r = record { program = g; one = one; bound = refl; within = sym (limit_same items of_modules of_blocks) ∙ r.within; sound = λ f h. r.sound f (refused_before f h) }

    resolves_before : (p : Program) → ResolvesOver primitive_types items p → ResolvesOver former_types items before
    resolves_before p r = record { program = g; one = one; bound = refl; within = limit_same items of_modules of_blocks ∙ r.within; sound = λ f h. r.sound f (refused_after f h) }

  accepted_onward : (a : Authority) → AreAccepted former_types items a → AreAccepted primitive_types items a
  accepted_onward a j =
      let r = j.resolves in
      let ok = resolves_after r.program r.one j.program r in
      let goes = goes_onward r.program r.one ok in
      record {
        program = after r.program r.one;
        resolves = ok;
        accepted = goes.accepted (subst Accepted r.bound j.accepted);
        reported = j.reported ∙ ap authority_of r.bound ∙ goes.authority;
      }

  accepted_back : (a : Authority) → AreAccepted primitive_types items a → AreAccepted former_types items a
  accepted_back a j =
      let r = j.resolves in
      let new : ResolvesOver primitive_types items (after r.program r.one) = subst (ResolvesOver primitive_types items) r.bound r in
      let goes = goes_back r.program r.one new in
      record {
        program = before r.program r.one;
        resolves = resolves_before r.program r.one j.program r;
        accepted = goes.accepted (subst Accepted r.bound j.accepted);
        reported = j.reported ∙ ap authority_of r.bound ∙ goes.authority;
      }

  judged_onward : (a : Authority) → AreJudged former_types items a → AreJudged primitive_types items a
  judged_onward a j =
      let r = j.resolves in
      let ok = resolves_after r.program r.one j.program r in
      let goes = goes_onward r.program r.one ok in
      record {
        program = after r.program r.one;
        resolves = ok;
        accepted = goes.accepted (subst Accepted r.bound j.accepted);
        within = goes.within (subst IsWithinLimits r.bound j.within);
        reported = j.reported ∙ ap authority_of r.bound ∙ goes.authority;
      }

  judged_back : (a : Authority) → AreJudged primitive_types items a → AreJudged former_types items a
  judged_back a j =
      let r = j.resolves in
      let new : ResolvesOver primitive_types items (after r.program r.one) = subst (ResolvesOver primitive_types items) r.bound r in
      let goes = goes_back r.program r.one new in
      record {
        program = before r.program r.one;
        resolves = resolves_before r.program r.one j.program r;
        accepted = goes.accepted (subst Accepted r.bound j.accepted);
        within = goes.within (subst IsWithinLimits r.bound j.within);
        reported = j.reported ∙ ap authority_of r.bound ∙ goes.authority;
      }

pub accepted_alike : ResolvedIsCore → OldItemsAreAcceptedAlike
accepted_alike resolved_is_core items old a = (accepted_onward resolved_is_core items old a, accepted_back resolved_is_core items old a)

pub judged_alike : ResolvedIsCore → OldItemsAreJudgedAlike
judged_alike resolved_is_core items old a = (judged_onward resolved_is_core items old a, judged_back resolved_is_core items old a)

------------------------------------------------------------
-- Meaning

-- a grant that is of another type than the new one has the same type in both editions
numbered_same : (d : ℕ) → (d ≡ 4 → ⊥) → primitive_numbered former d ≡ primitive_numbered current d
numbered_same zero n = refl
numbered_same (suc zero) n = refl
numbered_same (suc (suc zero)) n = refl
numbered_same (suc (suc (suc zero))) n = refl
numbered_same (suc (suc (suc (suc zero)))) n = absurd (n refl)
numbered_same (suc (suc (suc (suc (suc d))))) n = refl

type_same : (t : TypeRef) → NamesNot 4 t → primitive_of_type former t ≡ primitive_of_type current t
type_same Int n = refl
type_same Bool n = refl
type_same Text n = refl
type_same Nothing n = refl
type_same (Named d sets) n = numbered_same d n
type_same (At d bound) n = refl
type_same (Own l) n = refl

grant_same : (o : Origin) (n : OwnName) → NamesNot 4 n.typ → grant_from former o n ≡ grant_from current o n
grant_same origin.Grant n h = ap (grant_of_primitive n.name) (type_same n.typ h)
grant_same (origin.Parameter bare) n h = refl
grant_same (origin.Use m) n h = refl
grant_same (origin.Instance m arguments) n h = refl
grant_same (origin.Import m arguments bound) n h = refl

grants_same : (p : Program) → ((k : ℕ) (s : Scope) → slice_get p.scopes k ≡ Some s → LeavesOut 4 p s) → HaveSameGrants former current p
grants_same p left g = of (slice_get p.scopes (last_scope p.scopes)) refl
  where
    named : (s : Scope) → slice_get p.scopes (last_scope p.scopes) ≡ Some s → (o : Option OwnName) → slice_get s.names g ≡ o → grant_named former o ≡ grant_named current o
    named s at None e = refl
    named s at (Some n) e = grant_same n.origin n ((left (last_scope p.scopes) s at).writes.names n (In-slice_get s.names g n e))

    of : (o : Option Scope) → slice_get p.scopes (last_scope p.scopes) ≡ o → grant_named former (slice_get (scope_names o) g) ≡ grant_named current (slice_get (scope_names o) g)
    of None e = refl
    of (Some s) e = named s e (slice_get s.names g) refl

-- programs that differ in a type that no scope writes start alike
starts_kept : (p other : Program) → DiffersAt 4 p other → ((k : ℕ) (s : Scope) → slice_get p.scopes k ≡ Some s → LeavesOut 4 p s) → program_starts p ≡ program_starts other
starts_kept p other w left =
    let same : record { declarations = other.declarations; scopes = p.scopes } ≡ other =
    ap (λ (ss : List Scope). let q : Program = record { declarations = other.declarations; scopes = ss } in q) w.scopes in
    let onward : DiffersAt 4 p (record { declarations = other.declarations; scopes = p.scopes }) =
    record { scopes = refl; declarations = w.declarations; named_not = w.named_not } in
    let began : start_list p ≡ start_list (record { declarations = other.declarations; scopes = p.scopes }) =
    starts_same 4 p.declarations other.declarations p.scopes onward left in
    subst (λ (q : Program). program_starts p ≡ program_starts q) same
    (ap (λ (is : List Began). starts_of p (map started_of is)) began)

pub mean_the_same : ResolvedIsCore → LongerTextsChangeNothingElse → OldItemsMeanTheSame
mean_the_same resolved_is_core wider items old p q was is n tapes short fits =
    let same_program : was.program ≡ is.program = let e : was.program ∷ [] ≡ is.program ∷ [] = sym was.one ∙ is.one in cc in
    let Goal : Program → Program → Type 0 = λ p q.
    ((place : Place) → (meaning n p (in_edition former (program_starts p)) tapes).end ≢ Trap LongText place) →
    meaning n p (in_edition former (program_starts p)) tapes ≡ meaning n q (program_starts q) tapes in
    let new : ResolvesOver primitive_types items (after resolved_is_core items old was.program was.one) = resolves_after resolved_is_core items old was.program was.one p was in
    let w = onward resolved_is_core items old was.program was.one in
    let left = left_before resolved_is_core items old was.program was.one new in
    let b = before resolved_is_core items old was.program was.one in
    let a = after resolved_is_core items old was.program was.one in
    let it : Goal b a = λ fits.
    wider former current b a (program_starts b) w.scopes (lit≤ tt) (grants_same b left) n tapes short fits
    ∙ ap (λ (s : Starts). meaning n a s tapes) (starts_kept b a w left) in
    let of_q : a ≡ q = ap (λ (g : ProgramTree). resolved_over primitive_types items g) same_program ∙ sym is.bound in
    subst (λ (q : Program). Goal p q) of_q (subst (λ (p : Program). Goal p a) (sym was.bound) it) fits
