use Rattle.std.proofs.Common.{◌≡◌, List, [], ◌∷◌, ◌++◌, ◌+◌, drop, Option, Some, None, refl, sym, ap, ◌∙◌, append_assoc, append-nil}
use Rattle.std.proofs.lemmas.List.{at_drop_more, at_drop_all}
use Rattle.std.specs.Prelude.{IsSome}
use Rattle.wy_code.specs.declared.code.Source.{Source}
use Rattle.wy_code.specs.Machine.{with_word}
use Rattle.wy_code.specs.Stores.{Word}
use Rattle.wy_machine.specs.Captures.{words_found, after_words}
use Rattle.wy_machine.proofs.making.captured.Goals as goal

no_words_before : (found : Option (List Word)) → after_words [] found ≡ found
no_words_before None = refl
no_words_before (Some words) = refl

word_before : (words : List Word) (word : Word) (found : Option (List Word)) → after_words (words ++ word ∷ []) found ≡ after_words words (with_word (Some word) found)
word_before words word None = refl
word_before words word (Some more) = ap Some (append_assoc words (word ∷ []) more)

none_there : {found : Option (List Word)} → found ≡ None → IsSome found → ⊥
none_there {found = None} e some = cc
none_there {found = Some words} e some = cc

pub loop-source-init : goal.loop-source-init
loop-source-init c =
    let found = words_found c.args.machine.now.stack c.args.machine.now.store c.args.sources.now in
    ap (λ words. after_words words found) c.new-words.ensures.items ∙ no_words_before found

pub unreachable-requires : goal.unreachable-requires
unreachable-requires c =
    let m = c.args.machine.now in
    let found = λ (sources : List Source). words_found m.stack m.store sources in
    let words : List Word = c.loop-source.words.items in
    let rest = found (drop (c.loop-source.source-index + 1) c.args.sources.now) in
    none_there
    (sym c.loop-source.invariant
    ∙ ap (after_words words) (at_drop_more found c.args.sources.now c.loop-source.source-index _ c.loop-source-test.true)
    ∙ ap (λ word. after_words words (with_word word rest)) (sym c.word_from.ensures ∙ c.in-None.is))
    c.requires

pub loop-source-preserved : goal.loop-source-preserved
loop-source-preserved c =
    let m = c.args.machine.now in
    let found = λ (sources : List Source). words_found m.stack m.store sources in
    let words : List Word = c.loop-source.words.items in
    let rest = found (drop (c.loop-source.source-index + 1) c.args.sources.now) in
    ap (λ words. after_words words rest) (c.in_ok-push-in-Some.ensures.items)
    ∙ word_before words c.in-Some.word rest
    ∙ ap (λ word. after_words words (with_word word rest)) (sym c.in-Some.is ∙ c.word_from.ensures)
    ∙ ap (after_words words) (sym (at_drop_more found c.args.sources.now c.loop-source.source-index _ c.loop-source-test.true))
    ∙ c.loop-source.invariant

pub returns : goal.returns
returns c =
    let m = c.args.machine.now in
    let words : List Word = c.loop-source.words.items in
    sym c.loop-source.invariant
    ∙ ap (after_words words) (at_drop_all (λ (sources : List Source). words_found m.stack m.store sources) c.args.sources.now c.loop-source.source-index c.loop-source-test.false)
    ∙ ap Some (append-nil words)
