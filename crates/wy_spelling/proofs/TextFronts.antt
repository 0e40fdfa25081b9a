-- Too few bytes for a text.
use Rattle.std.proofs.Common.{◌≡◌, ℕ, suc, ◌-◌, ◌<◌, List, [], ◌∷◌, ◌++◌, length}
use Rattle.std.proofs.Common.{refl, sym, ap, ◌∙◌, append_assoc, arith}
use Rattle.std.proofs.Math.ListN.{replicate}
use Rattle.std.proofs.lemmas.List.{append-nil, length-append, length-replicate}
use Rattle.wy_spelling.specs.Plain.{IsTextSpelled, text_bytes}
use Rattle.wy_spelling.specs.Spelling.{IsNumber, IsStuck, number_bytes}
use Rattle.wy_spelling.proofs.Fronts.{GoesOn}

-- any number is that of some text's bytes
pub text_count_goes : GoesOn IsNumber number_bytes IsTextSpelled text_bytes []
text_count_goes = record {
  into = λ n is.
      let zeros : List ℕ = replicate n 0 in
      let long : length zeros ≡ n = length-replicate n 0 in
      (zeros, zeros, rw long is, ap (λ (k : ℕ). number_bytes k ++ zeros) long);
  from = λ t others is e. (length t, t, is, sym e);
}

pub text_ends_early : (bytes behind : List ℕ) (count : ℕ) → IsNumber count → bytes ≡ number_bytes count ++ behind
    → length behind < count → IsStuck IsTextSpelled text_bytes bytes 0
text_ends_early bytes behind count is split short =
    let more : ℕ = count - length behind in
    let zeros : List ℕ = replicate (more - 1) 0 in
    let t : List ℕ = behind ++ replicate more 0 in
    let one_more : more ≡ suc (more - 1) = omega arith in
    let long : length t ≡ count = simp (length-append, length-replicate) (omega arith) in
    let filled : text_bytes t ≡ bytes ++ 0 ∷ zeros =
    ap (λ (k : ℕ). number_bytes k ++ t) long
    ∙ ap (λ (k : ℕ). number_bytes count ++ (behind ++ replicate k 0)) one_more
    ∙ sym (append_assoc (number_bytes count) behind (0 ∷ zeros))
    ∙ ap (λ (s : List ℕ). s ++ 0 ∷ zeros) (sym split) in
    record {
      front = bytes;
      rest = [];
      split = sym (append-nil bytes);
      rest_is = refl;
      begins = (t, 0, zeros, rw long is, filled);
      ends = λ next after at x others is_x e. absurd cc;
    }
