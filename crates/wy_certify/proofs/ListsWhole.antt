-- Closed lists of what is asked of a scope are those from which what is written proves it.
use Rattle.std.proofs.Common.{◌≡◌, ℕ, List, [], ◌∷◌, ◌++◌, inl, inr, refl, subst, Some}
use Rattle.std.specs.Prelude.{slice_get, ◌↔◌}
use Rattle.wy_text.specs.Members.{In}
use Rattle.wy_text.proofs.Lists.{In-cases}
use Rattle.wy_types.specs.declared.types.TypeRef.{TypeRef}
use Rattle.wy_types.specs.Program.{Program, Scope}
use Rattle.wy_subtype.specs.declared.verdict.Mode.TheVariants.{Annotated, Plain}
use Rattle.wy_proving.specs.Certified.{Pair}
use Rattle.wy_proving.specs.Proving.{TypeStands}
use Rattle.wy_proving.specs.Written.{asks, plain_asks, pair_types, step_types, written_steps}
use Rattle.wy_proving.specs.WrittenLaws.{IsWhole, AskedStand}
use Rattle.wy_certify.specs.Closed.{AllHold, IsClosedList}

module _ (p : Program) (k : ℕ) (s : Scope) (us : List TypeRef) (stand : AskedStand p k s us) where
  -- what is asked holds
  pub asks_hold : slice_get p.scopes k ≡ Some s → AllHold p k Annotated (asks p k s us)
  asks_hold at = record { scope = s; there = at; each = λ q i. stand.asks q i }

  -- .. with no regard to effects, too
  pub plain_asks_hold : slice_get p.scopes k ≡ Some s → AllHold p k Plain (plain_asks p k s us)
  plain_asks_hold at = record { scope = s; there = at; each = λ q i. stand.plain_asks q i }

  pairs_stand : (ps : List Pair) → ((q : Pair) → In {X = Pair} q ps → TypeStands p s q.0 × TypeStands p s q.1) → (t : TypeRef) → In t (pair_types ps) → TypeStands p s t
  pairs_stand [] h t i = absurd i
  pairs_stand (q ∷ ps) h t (inl e) = subst (TypeStands p s) e (h q (inl refl)).0
  pairs_stand (q ∷ ps) h t (inr (inl e)) = subst (TypeStands p s) e (h q (inl refl)).1
  pairs_stand (q ∷ ps) h t (inr (inr i)) = pairs_stand ps (λ r j. h r (inr j)) t i

  -- with the types of pairs, steps and `val`s the lists are whole
  pub lists_whole : (ts : List TypeRef) (ps bs : List Pair) → IsClosedList p k s Annotated (asks p k s us) ps → IsClosedList p k s Plain (plain_asks p k s us) bs →
      ((t : TypeRef) → In t ts ↔ In t (pair_types ps ++ (pair_types bs ++ (step_types (written_steps p k s us) ++ us)))) → IsWhole p k s us ts ps bs
  lists_whole ts ps bs a b types = record {
    asked = a.has;
    closed = a.closed;
    asked_plainly = b.has;
    closed_plainly = b.closed;
    listed = λ t i. (types t).1 i;
    stand = λ t i. elim (In-cases t (pair_types ps) (pair_types bs ++ (step_types (written_steps p k s us) ++ us)) ((types t).0 i)) [
      | inl j ↦ pairs_stand ps a.stand t j
      | inr j ↦ elim (In-cases t (pair_types bs) (step_types (written_steps p k s us) ++ us) j) [
        | inl l ↦ pairs_stand bs b.stand t l
        | inr l ↦ elim (In-cases t (step_types (written_steps p k s us)) us l) [ inl x ↦ stand.steps t x | inr x ↦ stand.vals t x ]
      ]
    ];
  }
