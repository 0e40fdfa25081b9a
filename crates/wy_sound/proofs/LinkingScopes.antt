-- What holds of a scope of an accepted program and of its own names; and what its parameters are handed.
use Rattle.std.proofs.Common.{◌≡◌, ℕ, zero, suc, ◌+◌, ◌<◌, List, [], ◌∷◌, ◌++◌, map, inl, inr, length, refl, sym, ap, ◌∙◌, subst, arith, Option, Some, Bool as Truth, true, false, append_assoc, append-nil, length-append}
use Rattle.std.specs.Prelude.{slice_get, slice_index_or}
use Rattle.std.proofs.Math.ListN.{length-map}
use Rattle.wy_text.specs.Members.{In}
use Rattle.wy_effects.specs.EffSet.{AreSets, replace}
use Rattle.wy_effects.specs.Bounds.{Respects}
use Rattle.wy_text.proofs.Lists.{In-slice_get, In-at, In-right}
use Rattle.wy_effects.proofs.Replacing.{AreSets-map}
use Rattle.wy_types.specs.declared.linked.Actual.TheVariants as actual
use Rattle.wy_types.specs.declared.resolved.Origin.{Origin}
use Rattle.wy_types.specs.declared.resolved.Origin.TheVariants.{Parameter, Grant, Use, Instance, Import}
use Rattle.wy_types.specs.declared.resolved.OwnName.{OwnName}
use Rattle.wy_types.specs.declared.resolved.ScopeKind.{ScopeKind}
use Rattle.wy_types.specs.declared.resolved.ScopeKind.TheVariants.{Pure, Resource, Plain, Program as Main}
use Rattle.wy_types.specs.Program.{Program, Scope}
use Rattle.wy_types.specs.Types.{scope_is_plain, is_plain}
use Rattle.wy_types.specs.Bounds.{bounds_of}
use Rattle.wy_types.specs.Fitting.{FitsType}
use Rattle.wy_types.specs.MemberCount.{member_count}
use Rattle.wy_types.specs.Core.{IsWritten, OriginFits, IsAscribed, origin_modules, LeadsTo, ScopeFits, IsCore}
use Rattle.wy_types.specs.Ground.{Visited, names_of, members_of, is_use, uses_among, argument_sets, arguments_sets, handed, visit, program_number}
use Rattle.wy_types.proofs.Bounding.{bounds_at}
use Rattle.wy_rules.specs.Acceptance.{IsLine, PureHolds, LineHolds, ScopeAccepted, Accepted, is_parameter, parameters_until, parameters_among, Handed, handed_to, opened_members}
use Rattle.wy_rules.specs.OwnNames.{opens, opened_bounds, names_bounds, opened_count, after_parameters, HasItsType, HaveTheirTypes, MayHave, LinesAreTyped, HavePlainNames}
use Rattle.wy_sound.proofs.Lists.{map_append}
use Rattle.wy_sound.proofs.LinkingSets.{arguments_count}
use Rattle.wy_sound.proofs.LinkingBounds.{none_respect, names_read, NameBounds, respects_name}
use Rattle.wy_sound.proofs.LinkingStates.{count_more, read_type, IsActual, AreActuals, parameters_ground, AllFit, Stands}
use Rattle.wy_sound.proofs.LinkingVisits.{parameters_are, first_and_after, all_uses}
use Rattle.wy_sound.proofs.LinkingPrograms.{NoSpace, last_scope}
use Rattle.wy_sound.proofs.LinkingWays.{names_lead}

-- the own names of the scope of a number
abbrev pub names_at : Program → ℕ → List OwnName
names_at p m = names_of (slice_get p.scopes m)

pub record Facts (p : Program) (m : ℕ) (s : Scope) : Type 0 where
  pub there : slice_get p.scopes m ≡ Some s
  pub names : names_at p m ≡ s.names
  pub fits : ScopeFits p s
  pub accepted : ScopeAccepted p m s
  pub written : (k : ℕ) (n : OwnName) → slice_get (names_at p m) k ≡ Some n → IsWritten p s n.typ × OriginFits p s k n n.origin
  pub lines : (n : OwnName) → In n (names_at p m) → LineHolds p m (names_at p m) n.origin
  pub may_have : MayHave s.kind (parameters_among (names_at p m))
  pub parameters : (n : OwnName) → In n (parameters_among (names_at p m)) → FitsType p (opened_count p (parameters_among (names_at p m))) 0 n.typ
  pub others : HaveTheirTypes p (opened_count p (parameters_among (names_at p m))) (after_parameters (names_at p m))
  pub bounds : bounds_of p m ≡ names_bounds p 0 (names_at p m)
  pub words : (n : OwnName) → In n (names_at p m) → NoSpace n.name

pub facts_at : (p : Program) → IsCore p → LinesAreTyped p → HavePlainNames p → Accepted p → (m : ℕ) (s : Scope) → slice_get p.scopes m ≡ Some s → Facts p m s
facts_at p c t words a m s e =
    let fits = c.scopes s (In-slice_get p.scopes m s e) in
    let typed = t s (In-slice_get p.scopes m s e) in
    let accepted = a.scopes m s e in
    let names : names_at p m ≡ s.names = ap names_of e in
    record {
      there = e;
      names = names;
      fits = fits;
      accepted = accepted;
      written = rw names fits.names;
      lines = rw names accepted.lines;
      may_have = rw names typed.may_have;
      parameters = rw names typed.parameters;
      others = rw names typed.others;
      bounds = bounds_at p m s e ∙ typed.bounds ∙ ap (names_bounds p 0) (sym names);
      words = λ n i. (words s (In-slice_get p.scopes m s e) n (subst (λ l. In n l) names i)).0;
    }

-- the bounds of the atoms that an own name opens
pub name_bounds : (p : Program) → IsCore p → (m : ℕ) (s : Scope) → Facts p m s → (done : List OwnName) (n : OwnName) (rest : List OwnName) →
    names_at p m ≡ done ++ n ∷ rest → NameBounds p m done n
name_bounds p c m s f done n rest names = record {
  sets = λ a b e. f.fits.bounds.1 a b (ap (λ l. slice_get l a) (sym (bounds_at p m s f.there)) ∙ e);
  own =
      λ j b lt e. names_read p c done n rest j b lt
      (ap (λ l. slice_get l (opened_count p done + j)) (sym (f.bounds ∙ ap (names_bounds p 0) names)) ∙ e);
}

module _ (p : Program) (m : ℕ) (s : Scope) (f : Facts p m s) where
  pub leads : (n : OwnName) (j : ℕ) → In n (names_at p m) → In j (origin_modules n.origin) → LeadsTo p m j
  leads n j i h = (s, f.there, names_lead s.names n j (subst (λ l. In n l) f.names i) h)

  -- how many sets an annotated module defines
  pub definitions_count : (d : ℕ) → is_plain s.kind ≡ false → s.ascribed ≡ Some d → length s.definitions ≡ member_count (slice_get p.declarations d)
  definitions_count d plain e = by_kind s.kind plain (subst (IsAscribed p s s.kind) e f.fits.ascribed)
    where
      by_kind : (k : ScopeKind) → is_plain k ≡ false → IsAscribed p s k (Some d) → length s.definitions ≡ member_count (slice_get p.declarations d)
      by_kind Pure e h = h.1
      by_kind Resource e h = h.1
      by_kind Plain e h = absurd (cc)
      by_kind Main e h = absurd h

  no_parameter : (k : ℕ) (ns : List OwnName) → HaveTheirTypes p k ns → (n : OwnName) → In n ns → (bare : Truth) → n.origin ≡ Parameter bare → ⊥
  no_parameter k [] h n i bare o = absurd i
  no_parameter k (x ∷ ns) h n (inl e) bare o = subst (HasItsType p k x) (ap (λ (v : OwnName). v.origin) e ∙ o) h.0
  no_parameter k (x ∷ ns) h n (inr i) bare o = no_parameter (k + length (opens p x x.origin)) ns h.1 n i bare o

  -- a pure module's own names are uses
  pub pure_names : s.kind ≡ Pure → (parameters_among (names_at p m) ≡ []) × (uses_among (names_at p m) ≡ after_parameters (names_at p m))
  pure_names kind =
      let none : parameters_among (names_at p m) ≡ [] = subst (λ k. MayHave k (parameters_among (names_at p m))) kind f.may_have in
      let all : names_at p m ≡ after_parameters (names_at p m) = first_and_after (names_at p m) ∙ ap (λ l. l ++ after_parameters (names_at p m)) none in
      (none, all_uses (names_at p m) (λ n i. is_one n (In-at n (names_at p m) i) i (subst (λ l. In n l) all i) n.origin refl) ∙ all)
    where
      pure : PureHolds Pure s
      pure = subst (λ k. PureHolds k s) kind f.accepted.pure

      is_one : (n : OwnName) → ((k : ℕ) × (k < length (names_at p m)) × (slice_get (names_at p m) k ≡ Some n)) → In n (names_at p m) →
          In n (after_parameters (names_at p m)) → (o : Origin) → n.origin ≡ o → is_use n.origin ≡ true
      is_one n at i j (Parameter bare) o = absurd (no_parameter _ (after_parameters (names_at p m)) f.others n j bare o)
      is_one n at i j Grant o =
          absurd (let main = (subst (OriginFits p s at.0 n) o (f.written at.0 n at.2).1).0 in let same : Pure ≡ Main = sym kind ∙ main in cc)
      is_one n at i j (Use k) o = ap is_use o
      is_one n at i j (Instance k arguments) o = absurd (pure.no_line n (subst (λ l. In n l) f.names i) (subst IsLine (sym o) tt))
      is_one n at i j (Import k arguments bound) o = absurd (pure.no_line n (subst (λ l. In n l) f.names i) (subst IsLine (sym o) tt))

  -- a plain module's own names are parameters
  pub plain_names : s.kind ≡ Plain → after_parameters (names_at p m) ≡ []
  plain_names kind =
      by_rest (after_parameters (names_at p m)) f.others
      (λ n i. subst (λ l. In n l) (sym (first_and_after (names_at p m))) (In-right n (parameters_among (names_at p m)) (after_parameters (names_at p m)) i))
    where
      other : (n : OwnName) (k : ℕ) → slice_get (names_at p m) k ≡ Some n → (o : Origin) → n.origin ≡ o → ((bare : Truth) → o ≡ Parameter bare → ⊥) → ⊥
      other n k at (Parameter bare) o no_p = no_p bare refl
      other n k at Grant o no_p = let main = (subst (OriginFits p s k n) o (f.written k n at).1).0 in let same : Plain ≡ Main = sym kind ∙ main in cc
      other n k at (Use j) o no_p =
          let e = (subst (OriginFits p s k n) o (f.written k n at).1).0 in let same : true ≡ false = sym (ap is_plain kind) ∙ e in cc
      other n k at (Instance j arguments) o no_p =
          let e = (subst (OriginFits p s k n) o (f.written k n at).1).0 in let same : true ≡ false = sym (ap is_plain kind) ∙ e in cc
      other n k at (Import j arguments bound) o no_p =
          let e = (subst (OriginFits p s k n) o (f.written k n at).1).0 in let same : true ≡ false = sym (ap is_plain kind) ∙ e in cc

      by_rest : (ns : List OwnName) → HaveTheirTypes p (opened_count p (parameters_among (names_at p m))) ns →
          ((n : OwnName) → In n ns → In n (names_at p m)) → ns ≡ []
      by_rest [] h among = refl
      by_rest (n ∷ ns) h among =
          let at = In-at n (names_at p m) (among n (inl refl)) in
          absurd (other n at.0 at.2 n.origin refl (λ bare o. no_parameter _ (n ∷ ns) h n (inl refl) bare o))

------------------------------------------------------------
-- What a line hands to a module's parameters

module _ (p : Program) (z : ℕ) (outer : List OwnName) (v : Visited) (o : Option (List ℕ)) (top : List (List ℕ)) where
  abbrev pub TakesAll : List OwnName → List ℕ → Type 0
  TakesAll ns arguments =
      (h : Handed) → In h (handed_to ns arguments) → IsActual p (length v.started) (read_type o top h.parameter.typ)
      (slice_index_or v.actuals h.argument (actual.Grant 0))

  taken : (ns : List OwnName) (arguments : List ℕ) → length arguments ≡ length ns → TakesAll ns arguments →
      AreActuals p (length v.started) o top ns (map (λ a. slice_index_or v.actuals a (actual.Grant 0)) arguments)
  taken [] [] e h = tt
  taken [] (a ∷ arguments) e h = absurd (omega arith)
  taken (n ∷ ns) [] e h = absurd (omega arith)
  taken (n ∷ ns) (a ∷ arguments) e h = (h (record { parameter = n; argument = a }) (inl refl), taken ns arguments (omega (arith, e)) (λ g i. h g (inr i)))

  -- what a parameter is handed respects the bounds of the members that it opens
  abbrev pub AllRespect : List OwnName → List ℕ → Type 0
  AllRespect ns arguments =
      (h : Handed) → In h (handed_to ns arguments) →
      Respects (opened_members p h.parameter h.parameter.origin) [] (map (replace v.sets) (argument_sets p outer h.parameter.origin h.parameter h.argument))

  opened_by_parameter : (n : OwnName) (o : Origin) → is_parameter o ≡ true → opened_members p n o ≡ opened_bounds p n o
  opened_by_parameter n (Parameter true) e = refl
  opened_by_parameter n (Parameter false) e = refl
  opened_by_parameter n Grant e = absurd (cc)
  opened_by_parameter n (Use m) e = absurd (cc)
  opened_by_parameter n (Instance m arguments) e = absurd (cc)
  opened_by_parameter n (Import m arguments bound) e = absurd (cc)

  argument_count : (n : OwnName) (origin : Origin) (a : ℕ) → is_parameter origin ≡ true → length (argument_sets p outer origin n a) ≡ length (opens p n origin)
  argument_count n (Parameter true) a e = length-map (members_of p n.typ) _
  argument_count n (Parameter false) a e = refl
  argument_count n Grant a e = absurd (cc)
  argument_count n (Use m) a e = absurd (cc)
  argument_count n (Instance m arguments) a e = absurd (cc)
  argument_count n (Import m arguments bound) a e = absurd (cc)

  -- sets of parameters' atoms, one parameter's after another's
  handed_respect : (c : IsCore p) (s : Scope) (f : Facts p z s) (done ns : List OwnName) (arguments : List ℕ) (sets : List (List ℕ)) → names_at p z ≡ done ++ ns →
      length arguments ≡ length (parameters_among ns) → length sets ≡ opened_count p done → AllRespect (parameters_among ns) arguments →
      Respects (bounds_of p z) [] sets → Respects (bounds_of p z) [] (sets ++ map (replace v.sets) (arguments_sets p outer ns arguments))
  handed_respect c s f done [] arguments sets names many count h r = subst (Respects (bounds_of p z) []) (sym (append-nil sets)) r
  handed_respect c s f done (n ∷ ns) [] sets names many count h r = subst (Respects (bounds_of p z) []) (sym (append-nil sets)) r
  handed_respect c s f done (n ∷ ns) (a ∷ arguments) sets names many count h r =
      let first = argument_sets p outer n.origin n a in
      let others = arguments_sets p outer ns arguments in
      let own = map (replace v.sets) first in
      let all : (sets ++ own) ++ map (replace v.sets) others ≡ sets ++ map (replace v.sets) (first ++ others) =
      append_assoc sets own (map (replace v.sets) others) ∙ ap (λ l. sets ++ l) (sym (map_append (replace v.sets) first others)) in
      subst (Respects (bounds_of p z) []) all
      (elim (is_parameter n.origin) as (
      λ b. is_parameter n.origin ≡ b → suc (length arguments) ≡ length (parameters_until b n (parameters_among ns)) →
      AllRespect (parameters_until b n (parameters_among ns)) (a ∷ arguments) →
      Respects (bounds_of p z) [] ((sets ++ own) ++ map (replace v.sets) others)
      ) [
        | true ↦ λ e same each.
            let long : length own ≡ length (opens p n n.origin) = length-map first (replace v.sets) ∙ argument_count n n.origin a e in
            let own_respect : Respects (opened_bounds p n n.origin) [] own =
            subst (λ l. Respects l [] own) (opened_by_parameter n n.origin e) (each (record { parameter = n; argument = a }) (inl refl)) in
            let longer : length (sets ++ own) ≡ opened_count p (done ++ n ∷ []) = omega (arith, length-append sets own, count, long, count_more p done n) in
            handed_respect c s f (done ++ n ∷ []) ns arguments (sets ++ own) (names ∙ sym (append_assoc done (n ∷ []) ns)) (omega (arith, same)) longer
            (λ g i. each g (inr i)) (respects_name p z done n (name_bounds p c z s f done n ns names) sets own count long r own_respect)
        | false ↦ λ e same each. absurd (omega (arith, same))
      ] refl many h)

  -- the parameters of a module are handed what they ask for
  pub handed_stands : IsCore p → (s : Scope) (f : Facts p z s) (arguments : List ℕ) → length arguments ≡ length (parameters_among (names_at p z)) →
      TakesAll (parameters_among (names_at p z)) arguments →
      (scope_is_plain (slice_get p.scopes z) ≡ false → AllRespect (parameters_among (names_at p z)) arguments) →
      AreSets 512 v.sets → AllFit p v.started →
      Stands p z o top (parameters_among (names_at p z)) (handed p outer v z arguments)
  handed_stands c s f arguments many takes respect sets started =
      let ns = names_at p z in
      let given = arguments_sets p outer ns arguments in
      let count : length (map (replace v.sets) given) ≡ opened_count p (parameters_among ns) =
      length-map given (replace v.sets) ∙ arguments_count p outer ns arguments many in
      record {
        actuals = taken (parameters_among ns) arguments many takes;
        grounds =
            parameters_ground p top ns (parameters_among ns) (map (λ a. slice_index_or v.actuals a (actual.Grant 0)) arguments)
            (length-map arguments (λ a. slice_index_or v.actuals a (actual.Grant 0)) ∙ many) (parameters_are ns);
        count = count;
        types = λ n i. subst (λ k. FitsType p k 0 n.typ) (sym count) (f.parameters n i);
        sets = AreSets-map 512 v.sets given sets;
        respects = λ e. handed_respect c s f [] ns arguments [] refl many refl (respect e) (none_respect (bounds_of p z) []);
        started = started;
      }

-- a visit of no names
pub visits_nothing : (p : Program) (k : ℕ) (outer : List OwnName) (prefix : List ℕ) (v : Visited) → visit p k outer prefix [] v ≡ v
visits_nothing p zero outer prefix v = refl
visits_nothing p (suc k) outer prefix v = refl

-- the program has no parameters, so all of its own names have their types
pub program_typed : (p : Program) → IsCore p → LinesAreTyped p → HaveTheirTypes p 0 (names_at p (program_number p))
program_typed p c t =
    let main = last_scope p.scopes c.program in
    let names = main.0.names in
    let fits = t main.0 (In-slice_get p.scopes (program_number p) main.0 main.1) in
    let none : parameters_among names ≡ [] = subst (λ k. MayHave k (parameters_among names)) main.2 fits.may_have in
    let all : after_parameters names ≡ names = sym (first_and_after names ∙ ap (λ l. l ++ after_parameters names) none) in
    let others : HaveTheirTypes p 0 (after_parameters names) =
    subst (λ l. HaveTheirTypes p (opened_count p l) (after_parameters names)) none fits.others in
    subst (λ o. HaveTheirTypes p 0 (names_of o)) (sym main.1) (subst (HaveTheirTypes p 0) all others)
