-- Reading the lines gives the layout's tokens, or the fault with the least place.
use Rattle.std.proofs.Common.{◌≡◌, ℕ, suc, ◌+◌, ◌<◌, ◌≤◌, ◌==◌, Bool, true, false, cond, ◌&&◌, List, [], ◌∷◌, ◌++◌, length, refl, sym, ap, subst, ◌∙◌, arith, ◌⊎◌, inl, inr, nat_lt, ltb-true, ltb-false}
use Rattle.wy_text.specs.declared.token.Token.{Token}
use Rattle.wy_text.specs.declared.token.TokenKind.TheVariants as kind
use Rattle.wy_layout.specs.Words.{Within, fits, passes}
use Rattle.wy_layout.specs.Counts.{most_tokens}
use Rattle.wy_layout.specs.Widths.{Step, deeper, back, wrong, opens}
use Rattle.wy_layout.specs.Lines.{Line, width, after_spaces, is_done, has_tab}
use Rattle.wy_layout.specs.Layout.{step, mark, marks, mark_count, begin, finish, Words, count_in, opening, HasTokens, HasTokensOr, LineTokens, IsFull, IsTab, IsOpening, IsInWords, IsAtEnd, LineFault, widths, rank, Before}
use Rattle.wy_layout.specs.Lexed.{Found, good, bad_at, words_of, stack_after, LineOut, laid, broken, with_end, sooner, line_words, by_opening, by_step, line_out}
use Rattle.wy_layout.specs.declared.refusal.Fault.{Fault}
use Rattle.wy_layout.specs.declared.refusal.Fault.TheVariants as fault
use Rattle.wy_layout.proofs.Scanning.{eq_is}
use Rattle.wy_layout.proofs.OpenWidths.{IsClosed, stack_is}
use Rattle.wy_layout.proofs.LineWords.{FoundIs, words_are, words_read, wrong_read, wrong_place}

-- ---- a line's faults stand in it

pub spaces_within : (u : List ℕ) → length (after_spaces u) ≤ length u
spaces_within [] = omega arith
spaces_within (c ∷ cs) = go (c == 32) (spaces_within cs)
  where
    go : (b : Bool) → length (after_spaces cs) ≤ length cs → length (cond b (after_spaces cs) (c ∷ cs)) ≤ length (c ∷ cs)
    go true h = omega arith
    go false h = omega arith

-- a line that isn't blank ends behind its first word's beginning
not_empty : (u : List ℕ) → is_done u ≡ false → 0 < length u
not_empty [] h = absurd (let t : true ≡ false = h in cc)
not_empty (c ∷ cs) h = omega arith

begins_before : (l : Line) → IsFull l → begin l < finish l
begins_before l h = let a = spaces_within l.content in let b = not_empty (after_spaces l.content) h.full in omega arith

abbrev Inside : Line → ℕ → Type 0
Inside l o = (begin l ≤ o) × (o ≤ finish l)

pub line_place : (n : ℕ) (ws : List ℕ) (l : Line) (f : Fault) (o : ℕ) → LineFault n ws l f o → Inside l o
line_place n ws l f o (inl h) = let a = spaces_within l.content in let p = h.place in (omega arith, omega arith)
line_place n ws l f o (inr (inl h)) = let a = spaces_within l.content in let p = h.place in (omega arith, omega arith)
line_place n ws l f o (inr (inr (inl h))) =
    let a = spaces_within l.content in
    let w = wrong_place h.words (count_in n ws l) (begin l) (after_spaces l.content) f o h.wrong in
    let x = w.0 in let y = w.1 in
    (omega arith, omega arith)
line_place n ws l f o (inr (inr (inr h))) = let a = spaces_within l.content in let p = h.place in (omega arith, omega arith)

both_ways : (b : Bool) → b ≡ true → b ≡ false → ⊥
both_ways b e h = absurd (let t : true ≡ false = sym e ∙ h in cc)

same_bad : (f f' : Fault) (o o' : ℕ) → bad_at f o ≡ bad_at f' o' → (f ≡ f') × (o ≡ o')
same_bad f f' o o' e = (cc, cc)

good_or_bad : (us : List Token) (f : Fault) (o : ℕ) → good us ≡ bad_at f o → ⊥
good_or_bad us f o e = absurd cc

same_good : (us vs : List Token) → good us ≡ good vs → us ≡ vs
same_good us vs e = cc

same_passes : (f f' : Fault) → passes f ≡ passes f' → f ≡ f'
same_passes f f' e = cc

fits_or_passes : (f : Fault) → fits ≡ passes f → ⊥
fits_or_passes f e = absurd cc

-- ---- the words of a line

abbrev words_in : ℕ → List ℕ → Line → Found
words_in n ws l = line_words l (n + mark_count (step ws l))

words_found : (n : ℕ) (ws : List ℕ) (l : Line) → FoundIs l.row (count_in n ws l) (begin l) (after_spaces l.content) (words_in n ws l)
unfolding words_of
words_found n ws l = words_are (suc (length (after_spaces l.content))) l.row (count_in n ws l) (begin l) (after_spaces l.content) (omega arith)

words_one : (n : ℕ) (ws : List ℕ) (l : Line) (f : Fault) (o : ℕ) → IsInWords n ws l f o → words_in n ws l ≡ bad_at f o
unfolding words_of
words_one n ws l f o h = wrong_read (suc (length (after_spaces l.content))) l.row (count_in n ws l) (begin l) (after_spaces l.content) h.words f o (omega arith) h.wrong

words_all : (n : ℕ) (ws : List ℕ) (l : Line) (us : List Token) → Words l.row (count_in n ws l) (begin l) (after_spaces l.content) us → words_in n ws l ≡ good us
unfolding words_of
words_all n ws l us h = words_read (suc (length (after_spaces l.content))) l.row (count_in n ws l) (begin l) (after_spaces l.content) us (omega arith) h

-- ---- a line's outcome

pub record LeastIn (n : ℕ) (ws : List ℕ) (l : Line) (f : Fault) (o : ℕ) : Type 0 where
  pub stands : LineFault n ws l f o
  pub least : (f' : Fault) (o' : ℕ) → LineFault n ws l f' o' → Before o f o' f'

abbrev pub OutIs : ℕ → List ℕ → Line → LineOut → Type 0
OutIs n ws l (laid us st) = LineTokens n ws l us × (st ≡ opens (widths ws l))
OutIs n ws l (broken f o) = LeastIn n ws l f o

no_tab_here : (l : Line) (f : Fault) (o : ℕ) → IsFull l → IsTab l f o → ⊥
no_tab_here l f o here g = both_ways (has_tab (after_spaces l.content)) g.tab here.no_tab

-- at the line's beginning before its end
before_end : (n : ℕ) (ws : List ℕ) (l : Line) (f f' : Fault) (o' : ℕ) → IsFull l → IsAtEnd n ws l f' o' → Before (begin l) f o' f'
before_end n ws l f f' o' here g = let a = begins_before l here in let p = g.place in inl (omega arith)

-- what stands before the words is wrong
opening_is : (n : ℕ) (ws : List ℕ) (l : Line) → IsFull l → (f : Fault) → opening (step ws l) n (length (opens ws)) ≡ passes f →
    (x : Found) → words_in n ws l ≡ x → FoundIs l.row (count_in n ws l) (begin l) (after_spaces l.content) x → OutIs n ws l (sooner f (begin l) x)
opening_is n ws l here f op (good us) q w = record { stands = inr (inl (record { line = here; kind = op; place = refl })); least = λ f' o' g. go f' o' g }
  where
    go : (f' : Fault) (o' : ℕ) → LineFault n ws l f' o' → Before (begin l) f o' f'
    go f' o' (inl g) = absurd (no_tab_here l f' o' here g)
    go f' o' (inr (inl g)) = inr (sym g.place, let a = ap rank (same_passes f f' (sym op ∙ g.kind)) in omega arith)
    go f' o' (inr (inr (inl g))) = absurd (good_or_bad us f' o' (sym q ∙ words_one n ws l f' o' g))
    go f' o' (inr (inr (inr g))) = before_end n ws l f f' o' here g
opening_is n ws l here f op (bad_at g o) q (ks, w) = pick (o == begin l) refl (nat_lt (rank g) (rank f)) refl
  where
    in_words : IsInWords n ws l g o
    in_words = record { line = here; words = ks; wrong = w }

    one : (f' : Fault) (o' : ℕ) → IsInWords n ws l f' o' → (g ≡ f') × (o ≡ o')
    one f' o' k = same_bad g f' o o' (sym q ∙ words_one n ws l f' o' k)

    words_first : o ≡ begin l → rank g < rank f → (f' : Fault) (o' : ℕ) → LineFault n ws l f' o' → Before o g o' f'
    words_first p r f' o' (inl k) = absurd (no_tab_here l f' o' here k)
    words_first p r f' o' (inr (inl k)) = inr (p ∙ sym k.place, let a = ap rank (same_passes f f' (sym op ∙ k.kind)) in omega arith)
    words_first p r f' o' (inr (inr (inl k))) = let s = one f' o' k in inr (s.1, let a = ap rank s.0 in omega arith)
    words_first p r f' o' (inr (inr (inr k))) = subst (λ (z : ℕ). Before z g o' f') (sym p) (before_end n ws l g f' o' here k)

    apart : (o b x y : ℕ) → b ≤ o → ((o == b) && nat_lt x y) ≡ false → (b < o) ⊎ ((b ≡ o) × (y ≤ x))
    apart o b x y h e = grind arith

    opening_first : ((o == begin l) && nat_lt (rank g) (rank f)) ≡ false → (f' : Fault) (o' : ℕ) → LineFault n ws l f' o' → Before (begin l) f o' f'
    opening_first z f' o' (inl k) = absurd (no_tab_here l f' o' here k)
    opening_first z f' o' (inr (inl k)) = inr (sym k.place, let a = ap rank (same_passes f f' (sym op ∙ k.kind)) in omega arith)
    opening_first z f' o' (inr (inr (inl k))) =
        let s = one f' o' k in
        let p = wrong_place ks (count_in n ws l) (begin l) (after_spaces l.content) g o w in
        subst (λ (h : Fault). Before (begin l) f o' h) s.0 (subst (λ (h : ℕ). Before (begin l) f h g) s.1 (apart o (begin l) (rank g) (rank f) p.0 z))
    opening_first z f' o' (inr (inr (inr k))) = before_end n ws l f f' o' here k

    pick : (a : Bool) → (o == begin l) ≡ a → (b : Bool) → nat_lt (rank g) (rank f) ≡ b → OutIs n ws l (cond (a && b) (broken g o) (broken f (begin l)))
    pick true ea true eb = record { stands = inr (inr (inl in_words)); least = words_first (eq_is o (begin l) ea) (ltb-true _ _ eb) }
    pick true ea false eb = record { stands = inr (inl (record { line = here; kind = op; place = refl })); least = opening_first (rw (ea, eb) refl) }
    pick false ea b eb = record { stands = inr (inl (record { line = here; kind = op; place = refl })); least = opening_first (rw ea refl) }

-- a width that isn't open doesn't fit
pub open_fits : (s : Step) (n depth : ℕ) → opening s n depth ≡ fits → IsClosed s → ⊥
open_fits deeper n depth h k = k
open_fits (back m) n depth h k = k
open_fits (wrong m) n depth h k = absurd (go (nat_lt most_tokens (n + m)) h)
  where
    go : (b : Bool) → cond b (passes fault.Tokens) (passes fault.BadDedent) ≡ fits → ⊥
    go true e = fits_or_passes fault.Tokens (sym e)
    go false e = fits_or_passes fault.BadDedent (sym e)

widths_full : (ws : List ℕ) (l : Line) → is_done (after_spaces l.content) ≡ false → widths ws l ≡ width l.content ∷ ws
widths_full ws l h = rw h refl

pub stack_here : (n : ℕ) (ws : List ℕ) (l : Line) → IsFull l → opening (step ws l) n (length (opens ws)) ≡ fits → stack_after (width l.content) (opens ws) ≡ opens (widths ws l)
stack_here n ws l here op = stack_is (width l.content) ws (λ k. open_fits (step ws l) n (length (opens ws)) op k) ∙ ap opens (sym (widths_full ws l here.full))

-- what stands before the words is right
words_is : (n : ℕ) (ws : List ℕ) (l : Line) → IsFull l → opening (step ws l) n (length (opens ws)) ≡ fits →
    (x : Found) → words_in n ws l ≡ x → FoundIs l.row (count_in n ws l) (begin l) (after_spaces l.content) x →
    OutIs n ws l (with_end l.row (marks l.row (step ws l) (begin l)) (n + mark_count (step ws l)) (finish l) (stack_after (width l.content) (opens ws)) x)
words_is n ws l here op (good us) q w = go (nat_lt (n + mark_count (step ws l) + length us) most_tokens) refl
  where
    ending : most_tokens ≤ n + mark_count (step ws l) + length us → (f' : Fault) (o' : ℕ) → LineFault n ws l f' o' → Before (finish l) fault.Tokens o' f'
    ending r f' o' (inl g) = absurd (no_tab_here l f' o' here g)
    ending r f' o' (inr (inl g)) = absurd (fits_or_passes f' (sym op ∙ g.kind))
    ending r f' o' (inr (inr (inl g))) = absurd (good_or_bad us f' o' (sym q ∙ words_one n ws l f' o' g))
    ending r f' o' (inr (inr (inr g))) = inr (sym g.place, let a = ap rank g.kind in omega arith)

    go : (b : Bool) → nat_lt (n + mark_count (step ws l) + length us) most_tokens ≡ b →
        OutIs n ws l (cond b (laid (marks l.row (step ws l) (begin l) ++ (us ++ mark l.row kind.Nl (finish l) ∷ [])) (stack_after (width l.content) (opens ws))) (broken fault.Tokens (finish l)))
    go true e = ((here.no_tab, rw here.full (record { opens_well = op; words = us; are_words = w; room = ltb-true _ _ e; parts = refl })), stack_here n ws l here op)
    go false e = record { stands = inr (inr (inr (record { line = here; words = us; are_words = w; no_room = ltb-false _ _ e; kind = refl; place = refl }))); least = ending (ltb-false _ _ e) }
words_is n ws l here op (bad_at f o) q (ks, w) = record { stands = inr (inr (inl (record { line = here; words = ks; wrong = w }))); least = λ f' o' g. go f' o' g }
  where
    go : (f' : Fault) (o' : ℕ) → LineFault n ws l f' o' → Before o f o' f'
    go f' o' (inl g) = absurd (no_tab_here l f' o' here g)
    go f' o' (inr (inl g)) = absurd (fits_or_passes f' (sym op ∙ g.kind))
    go f' o' (inr (inr (inl g))) = let s = same_bad f f' o o' (sym q ∙ words_one n ws l f' o' g) in inr (s.1, let a = ap rank s.0 in omega arith)
    go f' o' (inr (inr (inr g))) = absurd (good_or_bad g.words f o (sym (words_all n ws l g.words g.are_words) ∙ q))

tab_is : (n : ℕ) (ws : List ℕ) (l : Line) → has_tab (after_spaces l.content) ≡ true → LeastIn n ws l fault.TabIndent (begin l)
tab_is n ws l t = record { stands = inl (record { tab = t; kind = refl; place = refl }); least = λ f' o' g. go f' o' g }
  where
    go : (f' : Fault) (o' : ℕ) → LineFault n ws l f' o' → Before (begin l) fault.TabIndent o' f'
    go f' o' (inl g) = inr (sym g.place, let a = ap rank g.kind in omega arith)
    go f' o' (inr (inl g)) = absurd (both_ways (has_tab (after_spaces l.content)) t g.line.no_tab)
    go f' o' (inr (inr (inl g))) = absurd (both_ways (has_tab (after_spaces l.content)) t g.line.no_tab)
    go f' o' (inr (inr (inr g))) = absurd (both_ways (has_tab (after_spaces l.content)) t g.line.no_tab)

pub line_is : (n : ℕ) (ws : List ℕ) (l : Line) → OutIs n ws l (line_out n (opens ws) l)
unfolding line_out
line_is n ws l = go (has_tab (after_spaces l.content)) refl (is_done (after_spaces l.content)) refl
  where
    full : IsFull l → (o : Within) → opening (step ws l) n (length (opens ws)) ≡ o → OutIs n ws l (by_opening o (step ws l) n (opens ws) l)
    full here fits op = words_is n ws l here op (words_in n ws l) refl (words_found n ws l)
    full here (passes f) op = opening_is n ws l here f op (words_in n ws l) refl (words_found n ws l)

    go : (a : Bool) → has_tab (after_spaces l.content) ≡ a → (b : Bool) → is_done (after_spaces l.content) ≡ b →
        OutIs n ws l (cond a (broken fault.TabIndent (begin l)) (cond b (laid [] (opens ws)) (by_step (step ws l) n (opens ws) l)))
    go true t b d = tab_is n ws l t
    go false t true d = ((t, rw d refl), rw d refl)
    go false t false d = full (record { no_tab = t; full = d }) (opening (step ws l) n (length (opens ws))) refl

-- ---- and back: a line's tokens are read

pub tokens_read : (n : ℕ) (ws : List ℕ) (l : Line) (us : List Token) → LineTokens n ws l us → line_out n (opens ws) l ≡ laid us (opens (widths ws l))
unfolding line_out
tokens_read n ws l us (t, h) =
    ap (λ (b : Bool). cond b (broken fault.TabIndent (begin l)) (cond (is_done (after_spaces l.content)) (laid [] (opens ws)) (by_step (step ws l) n (opens ws) l))) t
    ∙ go (is_done (after_spaces l.content)) refl h
  where
    full : IsFull l → HasTokens n ws l us → by_step (step ws l) n (opens ws) l ≡ laid us (opens (widths ws l))
    full here h =
        let r : nat_lt (n + mark_count (step ws l) + length h.words) most_tokens ≡ true = less _ _ h.room in
        ap (λ (o : Within). by_opening o (step ws l) n (opens ws) l) h.opens_well
        ∙ ap (λ (x : Found). with_end l.row (marks l.row (step ws l) (begin l)) (n + mark_count (step ws l)) (finish l) (stack_after (width l.content) (opens ws)) x) (words_all n ws l h.words h.are_words)
        ∙ ap (λ (b : Bool). cond b (laid (marks l.row (step ws l) (begin l) ++ (h.words ++ mark l.row kind.Nl (finish l) ∷ [])) (stack_after (width l.content) (opens ws))) (broken fault.Tokens (finish l))) r
        ∙ ap (λ (ts : List Token). laid ts (stack_after (width l.content) (opens ws))) (sym h.parts)
        ∙ ap (laid us) (stack_here n ws l here h.opens_well)
      where
        less : (a b : ℕ) → a < b → nat_lt a b ≡ true
        less a b h = grind arith

    go : (b : Bool) → is_done (after_spaces l.content) ≡ b → HasTokensOr b n ws l us → cond b (laid [] (opens ws)) (by_step (step ws l) n (opens ws) l) ≡ laid us (opens (widths ws l))
    go true d h = ap (λ (ts : List Token). laid ts (opens ws)) (sym h) ∙ ap (laid us) (rw d refl)
    go false d h = full (record { no_tab = t; full = d }) h

laid_or_broken : (us : List Token) (st : List ℕ) (f : Fault) (o : ℕ) → laid us st ≡ broken f o → ⊥
laid_or_broken us st f o e = absurd cc

same_laid : (us vs : List Token) (st st' : List ℕ) → laid us st ≡ laid vs st' → us ≡ vs
same_laid us vs st st' e = cc

-- a line with tokens has one list of them, and nothing wrong
pub one_tokens : (n : ℕ) (ws : List ℕ) (l : Line) (us vs : List Token) → LineTokens n ws l us → LineTokens n ws l vs → us ≡ vs
one_tokens n ws l us vs h k = same_laid us vs (opens (widths ws l)) (opens (widths ws l)) (sym (tokens_read n ws l us h) ∙ tokens_read n ws l vs k)

pub tokens_none : (n : ℕ) (ws : List ℕ) (l : Line) (us : List Token) → LineTokens n ws l us → (f : Fault) (o : ℕ) → LineFault n ws l f o → ⊥
tokens_none n ws l us (t, h) f o (inl g) = both_ways (has_tab (after_spaces l.content)) g.tab t
tokens_none n ws l us (t, h) f o (inr g) = by_line (is_done (after_spaces l.content)) refl h g
  where
    wrongs : HasTokens n ws l us → IsOpening n ws l f o ⊎ (IsInWords n ws l f o ⊎ IsAtEnd n ws l f o) → ⊥
    wrongs h (inl g) = fits_or_passes f (sym h.opens_well ∙ g.kind)
    wrongs h (inr (inl g)) = good_or_bad h.words f o (sym (words_all n ws l h.words h.are_words) ∙ words_one n ws l f o g)
    wrongs h (inr (inr g)) =
        let e = ap length (same_good h.words g.words (sym (words_all n ws l h.words h.are_words) ∙ words_all n ws l g.words g.are_words)) in
        let a = h.room in let b = g.no_room in absurd (omega arith)

    line_of : IsOpening n ws l f o ⊎ (IsInWords n ws l f o ⊎ IsAtEnd n ws l f o) → IsFull l
    line_of (inl g) = g.line
    line_of (inr (inl g)) = g.line
    line_of (inr (inr g)) = g.line

    by_line : (b : Bool) → is_done (after_spaces l.content) ≡ b → HasTokensOr b n ws l us → IsOpening n ws l f o ⊎ (IsInWords n ws l f o ⊎ IsAtEnd n ws l f o) → ⊥
    by_line true d h g = let k = line_of g in both_ways (is_done (after_spaces l.content)) d k.full
    by_line false d h g = wrongs h g
