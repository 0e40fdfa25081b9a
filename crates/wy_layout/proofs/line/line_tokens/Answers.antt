use Rattle.std.proofs.Common.{◌∙◌, ◌++◌, ◌∷◌, [], List, ℕ, Option, Ok, sym, ap, subst, arith}
use Rattle.std.specs.Borrow.{Bor}
use Rattle.wy_text.specs.declared.token.Token.{Token}
use Rattle.wy_layout.specs.Lexed.{words_of}
use Rattle.wy_layout.specs.Turns.{prepend, GivesTurn, IsTurn}
use Rattle.wy_layout.specs.declared.count.Count.{Count}
use Rattle.wy_layout.proofs.Tokenwise.{pushed}
use Rattle.wy_layout.proofs.line.line_tokens.Goals as goal

pub loop-token-preserved : goal.loop-token-preserved
loop-token-preserved c =
    let row = c.args.row in
    let token = c.in-Some.token in
    let more = c.in-Some.more.now in
    let old = c.loop-token.out.items in
    let turn : IsTurn row c.loop-token.count c.loop-token.at c.loop-token.rest.now token more =
    subst (λ (x : Option (Token × Bor (List ℕ))). GivesTurn (Ok x) row c.loop-token.count c.loop-token.at c.loop-token.rest.now) c.in-Some.is c.in_ok-token.ensures in
    let i = c.loop-token.invariant in
    let place = turn.place in let shorter = turn.shorter in
    let i1 = i.1 in let i2 = i.2 in
    let tokens = ap (λ (k : Count). k.tokens) c.counted-count.ensures.value in (
      ap (λ (ts : List Token). prepend ts (words_of row c.counted-count.result token.end more)) c.in_ok-push_token.ensures.added
          ∙ ap (λ (k : Count). prepend (old ++ token ∷ []) (words_of row k token.end more)) c.counted-count.ensures.value
          ∙ pushed old token _
          ∙ ap (prepend old) (sym turn.reads)
          ∙ i.0,
      omega arith,
      omega arith,
      c.counted-count.ensures.stays,
    )
