use Rattle.std.proofs.Common.{sym, subst, map}
use Rattle.wy_syntax.specs.Tokens.{toks}
use Rattle.wy_syntax.specs.Views.{item_tree}
use Rattle.wy_text.specs.declared.token.TokenKind.{TokenKind}
use Rattle.wy_parser.specs.declared.stop.Stop.{Stop}
use Rattle.wy_parser.specs.Refusals.{IsFirstBad}
use Rattle.wy_parser.proofs.Ends.{IsStop, tree_of, only_tree, stop_of, at_empty, at_first}
use Rattle.wy_parser.proofs.parsing.parse.Goals as goal

pub unreachable-requires : goal.unreachable-requires
unreachable-requires c =
    let s = stop_of c.args.tokens.now c.requires.ends c.in-Err-At-empty.field-0 c.in-Err-At-empty.ensures in
    let t = subst (λ (e : Stop). IsStop (toks c.args.tokens.now) e) c.in-Err-At-empty.field-0-is s in
    at_empty (toks c.args.tokens.now) c.in-Err-At-empty.field-0-0.now c.in-Err-At-empty.len_below t

pub unreachable-requires-in-Err-Deep : goal.unreachable-requires-in-Err-Deep
unreachable-requires-in-Err-Deep c =
    let s = stop_of c.args.tokens.now c.requires.ends c.in-Err-Deep.field-0 c.in-Err-Deep.ensures in
    subst (λ (e : Stop). IsStop (toks c.args.tokens.now) e) c.in-Err-Deep.field-0-is s

pub returns-in-Ok-clause-tree : goal.returns-in-Ok-clause-tree
returns-in-Ok-clause-tree c = tree_of c.args.tokens.now c.requires.ends (map item_tree c.in-Ok.items.items) (toks c.in-Ok.field-0-1.now) c.in-Ok.ensures

pub returns-in-Ok-clause-only : goal.returns-in-Ok-clause-only
returns-in-Ok-clause-only c = only_tree c.args.tokens.now c.requires.ends (map item_tree c.in-Ok.items.items) (toks c.in-Ok.field-0-1.now) c.in-Ok.ensures

pub returns-in_ok-token-in-Err-At-len1-up-clause-refused : goal.returns-in_ok-token-in-Err-At-len1-up-clause-refused
returns-in_ok-token-in-Err-At-len1-up-clause-refused c =
    let s = stop_of c.args.tokens.now c.requires.ends c.in-Err-At-len1-up.field-0 c.in-Err-At-len1-up.ensures in
    let t = subst (λ (e : Stop). IsStop (toks c.args.tokens.now) e) c.in-Err-At-len1-up.field-0-is s in
    let bad = at_first (toks c.args.tokens.now) c.in-Err-At-len1-up.field-0-0.now c.first-item.result c.in-Err-At-len1-up.len_at_least c.first-item.is t in
    subst (λ (k : TokenKind). IsFirstBad (toks c.args.tokens.now) (record { kind = k; place = c.first-item.result.place })) (sym c.in_ok-token-in-Err-At-len1-up.ensures) bad
