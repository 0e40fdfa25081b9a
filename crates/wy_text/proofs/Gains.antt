-- Lists that gain pieces, and counts that rise.
use Rattle.std.proofs.Common.{◌≡◌, ◌≤◌, ◌<◌, ℕ, List, [], ◌∷◌, ◌++◌, Option, Some, None, refl, sym, ◌∙◌, ap, arith, append_assoc, take, length-append}
use Rattle.std.proofs.lemmas.List.{append-nil}
use Rattle.wy_text.specs.Outside.{gained, Rose, SinkState}
use Rattle.wy_text.specs.Writing.{StopsShort, WritesUpTo}

pub gained-nil : {A : Type 0} → (told : Option (List A)) → gained told [] ≡ told
gained-nil None = refl
gained-nil (Some all) = ap Some (append-nil all)

pub gained-gained : {A : Type 0} → (told : Option (List A)) (a b : List A) → gained (gained told a) b ≡ gained told (a ++ b)
gained-gained None a b = refl
gained-gained (Some all) a b = ap Some (append_assoc all a b)

-- a count that rose after a count that did not fall
pub rose_later : (a b c : ℕ) → a ≤ b → Rose b c → b ≤ c → Rose a c
rose_later a b c l r m = grind arith

-- nothing was written yet
pub wrote_nothing : (text : List ℕ) (sink : SinkState) → WritesUpTo text text sink sink
wrote_nothing text sink = record { front = []; split = refl; taken = sym (gained-nil sink.taken); counted = omega arith }

-- one more piece was written
pub wrote_more : (text rest : List ℕ) (n : ℕ) (left : List ℕ) (before mid after : SinkState) → WritesUpTo text rest before mid
    → after.taken ≡ gained mid.taken (take n rest) → mid.faults ≤ after.faults → rest ≡ take n rest ++ left → WritesUpTo text left before after
wrote_more text rest n left before mid after w t l e = record {
  front = w.front ++ take n rest;
  split = w.split ∙ ap (λ x. w.front ++ x) e ∙ sym (append_assoc w.front (take n rest) left);
  taken = t ∙ ap (λ x. gained x (take n rest)) w.taken ∙ gained-gained before.taken w.front (take n rest);
  counted = omega (arith, w.counted);
}

-- a piece of a text was written up to a rest of it
pub wrote_piece : (text piece left rest : List ℕ) (before mid after : SinkState) → WritesUpTo text (piece ++ rest) before mid → WritesUpTo piece left mid after → WritesUpTo text (left ++ rest) before after
wrote_piece text piece left rest before mid after w v = record {
  front = w.front ++ v.front;
  split = w.split ∙ ap (λ x. w.front ++ x) (ap (λ x. x ++ rest) v.split ∙ append_assoc v.front left rest) ∙ sym (append_assoc w.front v.front (left ++ rest));
  taken = v.taken ∙ ap (λ x. gained x v.front) w.taken ∙ gained-gained before.taken w.front v.front;
  counted = omega (arith, w.counted, v.counted);
}

-- a piece was written short
pub piece_short : (text piece rest : List ℕ) (before mid after : SinkState) → WritesUpTo text (piece ++ rest) before mid → StopsShort piece mid after → StopsShort text before after
piece_short text piece rest before mid after w s = record {
  rest = s.rest ++ rest;
  written = wrote_piece text piece s.rest rest before mid after w s.written;
  some = omega (arith, s.some, length-append s.rest rest);
}
