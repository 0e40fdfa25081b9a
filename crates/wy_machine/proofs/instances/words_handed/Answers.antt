use Rattle.std.proofs.Common.{◌≡◌, ◌<◌, ℕ, zero, suc, arith, ◌+◌, List, [], ◌∷◌, ◌++◌, length, map, take, get_or, refl, sym, ap, ap₂, ◌∙◌}
use Rattle.std.proofs.lemmas.List.{take_more}
use Rattle.wy_code.specs.declared.code.Argument.{Argument}
use Rattle.wy_code.specs.declared.code.Argument.TheVariants.{Grant}
use Rattle.wy_code.specs.Running.{word_handed}
use Rattle.wy_code.specs.Stores.{Word}
use Rattle.wy_machine.proofs.instances.words_handed.Goals as goal

handed_end : (xs : List Argument) (x : Argument) → map word_handed (xs ++ x ∷ []) ≡ map word_handed xs ++ word_handed x ∷ []
handed_end [] x = refl
handed_end (y ∷ ys) x = ap (λ (l : List Word). word_handed y ∷ l) (handed_end ys x)

pub loop-argument-preserved : goal.loop-argument-preserved
loop-argument-preserved c =
    let xs = c.args.arguments.now in
    let i = c.loop-argument.argument-index in
    let x = get_or xs i (Grant 0) in
    let lt : i < length xs = c.loop-argument-test.true in
    c.in_ok-push.ensures.items ∙ ap₂ (λ l w. l ++ w ∷ []) c.loop-argument.invariant (c.word_handed.ensures ∙ ap word_handed (read_any xs i _ (Grant 0) lt))
    ∙ sym (ap (map word_handed) (take_more xs i (Grant 0) lt) ∙ handed_end (take i xs) x)
  where
    read_any : (xs : List Argument) (i : ℕ) (d e : Argument) → i < length xs → get_or xs i d ≡ get_or xs i e
    read_any [] i d e lt = absurd (omega arith)
    read_any (x ∷ xs) zero d e lt = refl
    read_any (x ∷ xs) (suc i) d e lt = read_any xs i d e (omega arith)
