-- Tokens of a line behind those before.
use Rattle.std.proofs.Common.{◌≡◌, ℕ, zero, suc, ◌+◌, ◌-◌, ◌<◌, ◌≤◌, nat_lt, Bool, true, false, cond, List, [], ◌∷◌, ◌++◌, length, replicate, length-append, refl, sym, ap, subst, ◌∙◌, append_assoc, arith, le-ltb}
use Rattle.wy_text.specs.declared.token.Token.{Token}
use Rattle.wy_text.specs.declared.token.TokenKind.TheVariants as kind
use Rattle.wy_layout.specs.Counts.{most_tokens}
use Rattle.wy_layout.specs.Widths.{Step, deeper, back, wrong}
use Rattle.wy_layout.specs.Layout.{mark, marks, mark_count}
use Rattle.wy_layout.specs.Lexed.{Found, good, bad_at, LineOut, laid, broken, with_end}
use Rattle.wy_layout.specs.Turns.{prepend}
use Rattle.wy_layout.specs.Outs.{Added}
use Rattle.wy_layout.specs.declared.refusal.Fault.{Fault}
use Rattle.wy_layout.specs.declared.refusal.Fault.TheVariants as fault
use Rattle.wy_layout.specs.declared.row.Row.{Row}

pub outs_step : (xs : List Token) (m : Token) (k : ℕ) → 0 < k → (xs ++ m ∷ []) ++ replicate (k - 1) m ≡ xs ++ replicate k m
outs_step xs m zero h = absurd (omega arith)
outs_step xs m (suc k) h = let e : suc k - 1 ≡ k = omega arith in ap (λ (n : ℕ). (xs ++ m ∷ []) ++ replicate n m) e ∙ append_assoc xs (m ∷ []) (replicate k m)

pub length_replicate : (n : ℕ) (t : Token) → length (replicate n t) ≡ n
length_replicate zero t = refl
length_replicate (suc n) t = let ih = length_replicate n t in omega arith

pub length_marks : (row : Row) (s : Step) (at : ℕ) → length (marks row s at) ≡ mark_count s
length_marks row deeper at = refl
length_marks row (back n) at = length_replicate n (mark row kind.Out at)
length_marks row (wrong n) at = length_replicate n (mark row kind.Out at)

good_inv : (us vs : List Token) → good us ≡ good vs → us ≡ vs
good_inv us vs e = cc

-- the tokens before a line, its words and its end are pushed
pub line_pushed : (row : Row) (s : Step) (at end : ℕ) (st : List ℕ) (old mid full new : List Token) (x : Found) → mid ≡ old ++ marks row s at → prepend mid x ≡ good full →
    length full < most_tokens → new ≡ full ++ mark row kind.Nl end ∷ [] → Added old new (with_end row (marks row s at) (length old + mark_count s) end st x)
line_pushed row s at end st old mid full new (bad_at f o) e h r p = absurd (no h)
  where
    no : bad_at f o ≡ good full → ⊥
    no h = absurd cc
line_pushed row s at end st old mid full new (good us) e h r p = subst (λ (out : LineOut). Added old new out) (sym out) there
  where
    whole : mid ++ us ≡ full
    whole = good_inv (mid ++ us) full h

    room : nat_lt (length old + mark_count s + length us) most_tokens ≡ true
    room =
        let a = ap length whole in let b = length-append mid us in let c = ap length e in let d = length-append old (marks row s at) in let m = length_marks row s at in
        less (length old + mark_count s + length us) most_tokens (omega arith)
      where
        less : (a b : ℕ) → a < b → nat_lt a b ≡ true
        less a b h = grind arith

    out : with_end row (marks row s at) (length old + mark_count s) end st (good us) ≡ laid (marks row s at ++ (us ++ mark row kind.Nl end ∷ [])) st
    out = ap (λ (b : Bool). cond b (laid (marks row s at ++ (us ++ mark row kind.Nl end ∷ [])) st) (broken fault.Tokens end)) room

    there : new ≡ old ++ (marks row s at ++ (us ++ mark row kind.Nl end ∷ []))
    there = p ∙ ap (λ (z : List Token). z ++ mark row kind.Nl end ∷ []) (sym whole) ∙ append_assoc mid us (mark row kind.Nl end ∷ [])
        ∙ ap (λ (z : List Token). z ++ (us ++ mark row kind.Nl end ∷ [])) e ∙ append_assoc old (marks row s at) (us ++ mark row kind.Nl end ∷ [])

-- there is no room for its end
pub end_stopped : (row : Row) (s : Step) (at end : ℕ) (st : List ℕ) (old mid full : List Token) (x : Found) → mid ≡ old ++ marks row s at → prepend mid x ≡ good full →
    most_tokens ≤ length full → with_end row (marks row s at) (length old + mark_count s) end st x ≡ broken fault.Tokens end
end_stopped row s at end st old mid full (bad_at f o) e h r = absurd (no h)
  where
    no : bad_at f o ≡ good full → ⊥
    no h = absurd cc
end_stopped row s at end st old mid full (good us) e h r = ap (λ (b : Bool). cond b (laid (marks row s at ++ (us ++ mark row kind.Nl end ∷ [])) st) (broken fault.Tokens end)) no_room
  where
    no_room : nat_lt (length old + mark_count s + length us) most_tokens ≡ false
    no_room =
        let a = ap length (good_inv (mid ++ us) full h) in let b = length-append mid us in let c = ap length e in let d = length-append old (marks row s at) in let m = length_marks row s at in
        le-ltb (length old + mark_count s + length us) most_tokens (omega arith)

-- its words are wrong
pub words_stopped : (row : Row) (s : Step) (at end : ℕ) (st : List ℕ) (old mid : List Token) (f : Fault) (o n : ℕ) (x : ℕ → Found) → mid ≡ old ++ marks row s at →
    x (length mid) ≡ bad_at f o → with_end row (marks row s at) (length old + mark_count s) end st (x (length old + mark_count s)) ≡ broken f o
words_stopped row s at end st old mid f o n x e h =
    let c = ap length e in let d = length-append old (marks row s at) in let m = length_marks row s at in
    let l : length old + mark_count s ≡ length mid = omega arith in
    ap (λ (k : ℕ). with_end row (marks row s at) (length old + mark_count s) end st (x k)) l ∙ ap (with_end row (marks row s at) (length old + mark_count s) end st) h
