-- Printed files: the tokens of the canonical form spell the tree again.
use Rattle.std.proofs.Common.{◌≡◌, ℕ, ◌<◌, ◌≤◌, nat_lt, ltb-true, ltb-false, Bool, true, false, ◌⊎◌, inl, inr, arith, List, [], ◌∷◌, ◌++◌, length, map, refl, sym, ap, subst, ◌∙◌, append-nil}
use Rattle.wy_text.specs.declared.token.TokenKind.TheVariants as kind
use Rattle.wy_text.specs.declared.fault.Place.{Place}
use Rattle.wy_text.specs.declared.limit.LimitName.{LimitName}
use Rattle.wy_text.specs.declared.limit.LimitName.TheVariants as limit
use Rattle.wy_text.specs.declared.token.Token.{Token}
use Rattle.wy_layout.specs.Counts.{most_file_bytes}
use Rattle.wy_layout.specs.Lines.{first_row, place_at}
use Rattle.wy_layout.specs.Layout.{Lexes, IsFirst, IsLimit, IsRefused}
use Rattle.wy_layout.specs.Lexed.{Lexed, tokens, refused, lex_bytes}
use Rattle.wy_layout.specs.Outs.{refusal_of}
use Rattle.wy_layout.specs.declared.refusal.Fault.{Fault}
use Rattle.wy_layout.specs.declared.refusal.Fault.TheVariants as fault
use Rattle.wy_layout.proofs.Filewise.{text_read, lexes_none}
use Rattle.wy_layout.proofs.Whole.{lexes_of, refused_of}
use Rattle.wy_syntax.specs.Tokens.{Tok, toks}
use Rattle.wy_syntax.specs.Trees.{ItemTree}
use Rattle.wy_syntax.specs.Languages.{Lang, Sign, ◌⨟◌, Each}
use Rattle.wy_syntax.specs.Grammar.{SpellsItem, Spells}
use Rattle.wy_syntax.specs.Canonical.{newline, in_order, item_text, after_blank, canonical_form}
use Rattle.wy_canonical.specs.Unplaced.{bare_item}
use Rattle.wy_canonical.specs.Printed.{IsWithinLimits, HasTreeAgain}
use Rattle.wy_canonical.specs.HasTree.{HasTree}
use Rattle.wy_canonical.proofs.Reading.{is_limit, LexedIn, LinesIn}
use Rattle.wy_canonical.proofs.LineReading.{up_here, up_blank, up_end}
use Rattle.wy_canonical.proofs.Source.{AllFair, lexed_fair}
use Rattle.wy_canonical.proofs.Printing.{first_map, anew, group2, fair_front, fair_back, Again}
use Rattle.wy_canonical.proofs.Turning.{Ups, ups_ups, conv_ups, no_lines, led, up_led}
use Rattle.wy_canonical.proofs.Items.{item_again}

-- an item's lines
item_lines : (i : ItemTree) (u : List Tok) → SpellsItem i u → AllFair u → Ups 0 (item_text i) (λ Q. Again bare_item SpellsItem i ⨟ Q)
item_lines i u x h = up_led (led (item_again i u x h))

-- behind a blank line
blank_lines : {u : List ℕ} {F : Lang → Lang} → Ups 0 u F → Ups 0 (newline ++ u) F
blank_lines {u} {F} p = record { reads = λ r Q k. up_blank 0 (u ++ r) (F Q) (p.reads r Q k) }

later_lines : (is : List ItemTree) (u : List Tok) → Each SpellsItem is u → AllFair u → Ups 0 (in_order after_blank is) (λ Q. Again (map bare_item) (Each SpellsItem) is ⨟ Q)
later_lines [] u x h = conv_ups no_lines (λ Q w y. record { front = []; back = w; parts = refl; first = record { it = []; spelled = refl; same = refl }; second = y })
later_lines (i ∷ is) u x h =
    let p = item_lines i x.front x.first (fair_front x h) in
    let q = later_lines is x.back x.second (fair_back x h) in
    conv_ups (ups_ups (blank_lines p) q) (λ Q w y. first_map (λ v q. record {
      it = q.first.it ∷ q.second.it;
      spelled = anew q q.first.spelled q.second.spelled;
      same = ap (λ (z : ItemTree). z ∷ map bare_item q.second.it) q.first.same ∙ ap (λ (z : List ItemTree). bare_item i ∷ z) q.second.same;
    }) (group2 y))

file_lines : (is : List ItemTree) (u : List Tok) → Each SpellsItem is u → AllFair u → Ups 0 (canonical_form is) (λ Q. Again (map bare_item) (Each SpellsItem) is ⨟ Q)
file_lines [] u x h = later_lines [] u x h
file_lines (i ∷ is) u x h =
    let p = item_lines i x.front x.first (fair_front x h) in
    let q = later_lines is x.back x.second (fair_back x h) in
    conv_ups (ups_ups p q) (λ Q w y. first_map (λ v q. record {
      it = q.first.it ∷ q.second.it;
      spelled = anew q q.first.spelled q.second.spelled;
      same = ap (λ (z : ItemTree). z ∷ map bare_item q.second.it) q.first.same ∙ ap (λ (z : List ItemTree). bare_item i ∷ z) q.second.same;
    }) (group2 y))

-- the whole file, up to its end
file_read : (is : List ItemTree) (ts : List Tok) → Spells ts is → AllFair ts → LinesIn 0 (canonical_form is) (Again (map bare_item) (Each SpellsItem) is ⨟ Sign kind.End)
file_read is ts x h =
    let p = file_lines is x.front x.first (fair_front x h) in
    subst (λ (z : List ℕ). LinesIn 0 z (Again (map bare_item) (Each SpellsItem) is ⨟ Sign kind.End)) (append-nil (canonical_form is)) (up_here 0 (canonical_form is ++ []) _ (p.reads [] (Sign kind.End) up_end))

-- where a limit comes first, it is passed
limit_passed : (file : ℕ) (z : List ℕ) (f : Fault) (o : ℕ) → length z ≤ most_file_bytes → is_limit f ≡ true → lex_bytes file z ≡ refused f o → (limit : LimitName) × IsLimit file z limit
limit_passed file z f o s l e = go f l (refused_of file z f o s e)
  where
    go : (f : Fault) → is_limit f ≡ true → IsRefused file z (refusal_of f (place_at file z o)) → (limit : LimitName) × IsLimit file z limit
    go fault.NameBytes l r = (limit.NameBytes, r)
    go fault.Tokens l r = (limit.Tokens, r)
    go fault.Indents l r = (limit.Indents, r)
    go fault.Marks l r = (limit.Marks, r)
    go fault.NotUtf8 l r = absurd (let t : false ≡ true = l in cc)
    go fault.TabIndent l r = absurd (let t : false ≡ true = l in cc)
    go fault.BadDedent l r = absurd (let t : false ≡ true = l in cc)
    go fault.BadCharacter l r = absurd (let t : false ≡ true = l in cc)
    go fault.OpenText l r = absurd (let t : false ≡ true = l in cc)
    go fault.BadEscape l r = absurd (let t : false ≡ true = l in cc)
    go fault.NumberTooLarge l r = absurd (let t : false ≡ true = l in cc)

pub spelled_or_limited : (file file' : ℕ) (bs : List ℕ) (is : List ItemTree) → HasTree file bs is →
    HasTreeAgain file' (canonical_form is) is ⊎ ((limit : LimitName) × IsLimit file' (canonical_form is) limit)
spelled_or_limited file file' bs is h = by_length (nat_lt most_file_bytes (length z)) refl
  where
    z : List ℕ
    z = canonical_form is

    P : Lang
    P = Again (map bare_item) (Each SpellsItem) is ⨟ Sign kind.End

    l : LinesIn 0 z P
    l = file_read is (toks h.tokens) h.spelled (lexed_fair file bs h.tokens h.lexed)

    go : length z ≤ most_file_bytes → (x : Lexed) → lex_bytes file' z ≡ x → LexedIn P x → HasTreeAgain file' z is ⊎ ((limit : LimitName) × IsLimit file' z limit)
    go s (tokens ts) e q = inl (record { tree = q.first.it; has_tree = record { tokens = ts; lexed = lexes_of file' z ts s e; spelled = anew q q.first.spelled q.second }; same = q.first.same })
    go s (refused f o) e q = inr (limit_passed file' z f o s q e)

    by_length : (b : Bool) → nat_lt most_file_bytes (length z) ≡ b → HasTreeAgain file' z is ⊎ ((limit : LimitName) × IsLimit file' z limit)
    by_length true e = inr (limit.FileBytes, ltb-true _ _ e)
    by_length false e = go (ltb-false _ _ e) (lex_bytes file' z) refl (subst (LexedIn P) (sym (text_read file' z l.utf8)) (l.reads (first_row file') (first_row file') (length z) 0))

pub printed_spelled : (file file' : ℕ) (bs : List ℕ) (is : List ItemTree) → HasTree file bs is → IsWithinLimits file' (canonical_form is) → HasTreeAgain file' (canonical_form is) is
printed_spelled file file' bs is h w = go (spelled_or_limited file file' bs is h)
  where
    go : HasTreeAgain file' (canonical_form is) is ⊎ ((limit : LimitName) × IsLimit file' (canonical_form is) limit) → HasTreeAgain file' (canonical_form is) is
    go (inl a) = a
    go (inr l) = absurd (w.none l.0 l.1)

-- ---- limits

-- a text that has tokens passes none
pub lexed_within : (file : ℕ) (bs : List ℕ) (ts : List Token) → Lexes file bs ts → IsWithinLimits file bs
lexed_within file bs ts h = record { short = h.short; none = none }
  where
    first : (f : Fault) (place : Place) → IsFirst file bs f place → ⊥
    first f place k = lexes_none file bs ts h f k.offset k.least.stands

    long : most_file_bytes < length bs → ⊥
    long l = let s = h.short in absurd (omega arith)

    none : (limit : LimitName) → IsLimit file bs limit → ⊥
    none limit.FileBytes l = long l
    none limit.NameBytes l = first fault.NameBytes l.0 l.1
    none limit.Tokens l = first fault.Tokens l.0 l.1
    none limit.Indents l = first fault.Indents l.0 l.1
    none limit.Marks l = first fault.Marks l.0 l.1
    none limit.Files l = l
    none limit.Types l = l
    none limit.Modules l = l
    none limit.Grants l = l
    none limit.Methods l = l
    none limit.Fields l = l
    none limit.Parameters l = l
    none limit.Atoms l = l
    none limit.ReachedTypes l = l
    none limit.Instances l = l
    none limit.Bodies l = l
    none limit.Slots l = l
    none limit.ImageBytes l = l
    none limit.CertificateBytes l = l
    none limit.PolicyRows l = l
