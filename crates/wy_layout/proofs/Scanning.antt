-- The states of a text spell its pieces.
use Rattle.std.proofs.Common.{◌≡◌, ℕ, ◌+◌, ◌*◌, ◌==◌, Bool, true, false, not, ◌&&◌, cond, List, [], ◌∷◌, ◌++◌, map, refl, sym, ap, subst, ◌∙◌, append_assoc, arith, inl, inr}
use Rattle.std.specs.Char.{is_ascii_hexdigit}
use Rattle.wy_layout.specs.Texts.{Piece, plain, short, hex, spelling, byte_of, good, Good, spell, is_control, is_short, short_value, hex_value}
use Rattle.wy_layout.specs.Read.{step, wrong_escape, Scan, closed, stuck, put, follow, scan}
use Rattle.wy_layout.specs.Faults.{part, Sane, Misses, StopsAt, Fails, IsTextFault}
use Rattle.wy_layout.specs.declared.refusal.Fault.{Fault}
use Rattle.wy_layout.specs.declared.refusal.Fault.TheVariants as fault
use Rattle.wy_layout.specs.declared.escape.State.{State}
use Rattle.wy_layout.specs.declared.escape.State.TheVariants as state
use Rattle.wy_layout.specs.declared.escape.Move.{Move}
use Rattle.wy_layout.specs.declared.escape.Move.TheVariants as move

pub record IsPiece (p : Piece) (v : ℕ) (u : List ℕ) : Type 0 where
  pub is_good : good p ≡ true
  pub spelled : u ≡ spelling p
  pub value : v ≡ byte_of p

-- what a step means
abbrev pub StepIs : State → ℕ → Move → Type 0
StepIs s c (move.Go t) = (part t ≡ part s ++ c ∷ []) × Sane t
StepIs s c (move.Put v) = (p : Piece) × IsPiece p v (part s ++ c ∷ [])
StepIs s c move.Close = part s ++ c ∷ [] ≡ 34 ∷ []
StepIs s c (move.Stop f) = StopsAt f s c

wrong_is : (s : State) (c : ℕ) → Misses s c → StepIs s c (wrong_escape c)
wrong_is s c h = go (is_control c) refl
  where
    go : (b : Bool) → is_control c ≡ b → StepIs s c (move.Stop (cond b fault.BadCharacter fault.BadEscape))
    go true e = inl (refl, e)
    go false e = inr (refl, e, h)

pub eq_is : (n k : ℕ) → (n == k) ≡ true → n ≡ k
eq_is n k e = grind arith

pub step_is : (s : State) (c : ℕ) → Sane s → StepIs s c (step s c)
step_is state.Plain c sane = go (c == 34) refl (c == 92) refl (is_control c) refl
  where
    go : (a : Bool) → (c == 34) ≡ a → (b : Bool) → (c == 92) ≡ b → (d : Bool) → is_control c ≡ d →
        StepIs state.Plain c (cond a move.Close (cond b (move.Go state.Slash) (cond d (move.Stop fault.BadCharacter) (move.Put c))))
    go true ea b eb d ed = ap (λ (z : ℕ). z ∷ []) (eq_is c 34 ea)
    go false ea true eb d ed = (ap (λ (z : ℕ). z ∷ []) (sym (eq_is c 92 eb)), tt)
    go false ea false eb true ed = inl (refl, ed)
    go false ea false eb false ed = (plain c, record { is_good = rw (ea, eb, ed) refl; spelled = refl; value = refl })
step_is state.Slash c sane = go (is_short c) refl (c == 120) refl
  where
    go : (a : Bool) → is_short c ≡ a → (b : Bool) → (c == 120) ≡ b →
        StepIs state.Slash c (cond a (move.Put (short_value c)) (cond b (move.Go state.Hex) (wrong_escape c)))
    go true ea b eb = (short c, record { is_good = ea; spelled = refl; value = refl })
    go false ea true eb = (ap (λ (z : ℕ). 92 ∷ z ∷ []) (sym (eq_is c 120 eb)), tt)
    go false ea false eb = wrong_is state.Slash c (ea, eb)
step_is state.Hex c sane = go (is_ascii_hexdigit c) refl
  where
    go : (a : Bool) → is_ascii_hexdigit c ≡ a → StepIs state.Hex c (cond a (move.Go (state.Digit c)) (wrong_escape c))
    go true ea = (refl, ea)
    go false ea = wrong_is state.Hex c ea
step_is (state.Digit h) c sane = go (is_ascii_hexdigit c) refl
  where
    go : (a : Bool) → is_ascii_hexdigit c ≡ a → StepIs (state.Digit h) c (cond a (move.Put (hex_value h * 16 + hex_value c)) (wrong_escape c))
    go true ea = (hex h c, record { is_good = rw (sane, ea) refl; spelled = refl; value = refl })
    go false ea = wrong_is (state.Digit h) c ea

pub record IsClosed (v cs r : List ℕ) : Type 0 where
  pub pieces : List Piece
  pub are_good : Good pieces
  pub parts : cs ≡ spell pieces ++ 34 ∷ r
  pub stands_for : v ≡ map byte_of pieces

abbrev pub ScanIs : List ℕ → Scan → Type 0
ScanIs cs (closed v r) = IsClosed v cs r
ScanIs cs (stuck f r) = IsTextFault f cs r

put_is : (p : Piece) (v : ℕ) (w u : List ℕ) (x : Scan) → IsPiece p v w → ScanIs u x → ScanIs (w ++ u) (put v x)
put_is p v w u (closed vs r) h k = record {
  pieces = p ∷ k.pieces;
  are_good = (h.is_good, k.are_good);
  parts = ap (λ (z : List ℕ). z ++ u) h.spelled ∙ ap (λ (z : List ℕ). spelling p ++ z) k.parts ∙ sym (append_assoc (spelling p) (spell k.pieces) (34 ∷ r));
  stands_for = rw (h.value, k.stands_for) refl;
}
put_is p v w u (stuck f r) h k = record {
  pieces = p ∷ k.pieces;
  are_good = (h.is_good, k.are_good);
  escape = k.escape;
  sane = k.sane;
  parts = ap (λ (z : List ℕ). z ++ u) h.spelled ∙ ap (λ (z : List ℕ). spelling p ++ z) k.parts ∙ sym (append_assoc (spelling p) (spell k.pieces) (part k.escape ++ r));
  fails = k.fails;
}

one_more : (u : List ℕ) (c : ℕ) (cs : List ℕ) → (u ++ c ∷ []) ++ cs ≡ u ++ c ∷ cs
one_more u c cs = append_assoc u (c ∷ []) cs

pub scan_is : (s : State) (cs : List ℕ) → Sane s → ScanIs (part s ++ cs) (scan s cs)
scan_is s [] sane = record { pieces = []; are_good = tt; escape = s; sane = sane; parts = refl; fails = refl }
scan_is s (c ∷ cs) sane = go (step s c) (step_is s c sane) (λ t h. scan_is t cs h)
  where
    go : (m : Move) → StepIs s c m → ((t : State) → Sane t → ScanIs (part t ++ cs) (scan t cs)) → ScanIs (part s ++ c ∷ cs) (follow m (c ∷ cs) cs (λ t. scan t cs))
    go (move.Go t) h ih = subst (λ (z : List ℕ). ScanIs z (scan t cs)) (ap (λ (z : List ℕ). z ++ cs) h.0 ∙ one_more (part s) c cs) (ih t h.1)
    go (move.Put v) h ih = subst (λ (z : List ℕ). ScanIs z (put v (scan state.Plain cs))) (one_more (part s) c cs) (put_is h.0 v (part s ++ c ∷ []) cs (scan state.Plain cs) h.1 (ih state.Plain tt))
    go move.Close h ih = record { pieces = []; are_good = tt; parts = sym (one_more (part s) c cs) ∙ ap (λ (z : List ℕ). z ++ cs) h; stands_for = refl }
    go (move.Stop f) h ih = record { pieces = []; are_good = tt; escape = s; sane = sane; parts = refl; fails = h }

-- ---- and each is read

pub and_left : (a b : Bool) → (a && b) ≡ true → a ≡ true
and_left true b e = refl
and_left false b e = e

pub and_right : (a b : Bool) → (a && b) ≡ true → b ≡ true
and_right true b e = e
and_right false b e = absurd cc

pub not_is : (a : Bool) → not a ≡ true → a ≡ false
not_is true e = sym e
not_is false e = refl

pub piece_read : (p : Piece) (r : List ℕ) → good p ≡ true → scan state.Plain (spelling p ++ r) ≡ put (byte_of p) (scan state.Plain r)
piece_read (plain c) r g =
    let a = not_is (c == 34) (and_left (not (c == 34)) (not (c == 92) && not (is_control c)) g) in
    let k = and_right (not (c == 34)) (not (c == 92) && not (is_control c)) g in
    let b = not_is (c == 92) (and_left (not (c == 92)) (not (is_control c)) k) in
    let d = not_is (is_control c) (and_right (not (c == 92)) (not (is_control c)) k) in
    rw (a, b, d) refl
piece_read (short c) r g = rw g refl
piece_read (hex h l) r g =
    let a = and_left (is_ascii_hexdigit h) (is_ascii_hexdigit l) g in
    let b = and_right (is_ascii_hexdigit h) (is_ascii_hexdigit l) g in
    rw (a, b) refl

pub scan_closed : (ps : List Piece) (r : List ℕ) → Good ps → scan state.Plain (spell ps ++ 34 ∷ r) ≡ closed (map byte_of ps) r
scan_closed [] r g = refl
scan_closed (p ∷ ps) r g = ap (scan state.Plain) (append_assoc (spelling p) (spell ps) (34 ∷ r)) ∙ piece_read p (spell ps ++ 34 ∷ r) g.0 ∙ ap (put (byte_of p)) (scan_closed ps r g.1)

wrong_stops : (f : Fault) (c : ℕ) (s : State) → StopsAt f s c → wrong_escape c ≡ move.Stop f
wrong_stops f c s (inl h) = ap (λ (b : Bool). move.Stop (cond b fault.BadCharacter fault.BadEscape)) h.1 ∙ ap move.Stop (sym h.0)
wrong_stops f c s (inr h) = ap (λ (b : Bool). move.Stop (cond b fault.BadCharacter fault.BadEscape)) h.1 ∙ ap move.Stop (sym h.0)

apart_control : (c n : ℕ) → is_control c ≡ true → is_control n ≡ false → (c == n) ≡ false
apart_control c n h k = go (c == n) refl
  where
    go : (b : Bool) → (c == n) ≡ b → (c == n) ≡ false
    go true e = absurd (let same : c ≡ n = eq_is c n e in let t : true ≡ false = sym h ∙ ap is_control same ∙ k in cc)
    go false e = e

no_hex : (c : ℕ) → is_control c ≡ true → is_ascii_hexdigit c ≡ false
no_hex c h = grind arith

no_short : (c : ℕ) → is_control c ≡ true → is_short c ≡ false
no_short c h =
    let a = apart_control c 110 h refl in let b = apart_control c 116 h refl in let d = apart_control c 92 h refl in let e = apart_control c 34 h refl in
    rw (a, b, d, e) refl

-- all that an escape must not see: a character that stops it misses
abbrev Stuck : State → ℕ → Type 0
Stuck state.Plain c = Unit {0}
Stuck state.Slash c = Misses state.Slash c
Stuck state.Hex c = Misses state.Hex c
Stuck (state.Digit h) c = Misses (state.Digit h) c

control_misses : (s : State) (c : ℕ) → is_control c ≡ true → Stuck s c
control_misses state.Plain c h = tt
control_misses state.Slash c h = (no_short c h, apart_control c 120 h refl)
control_misses state.Hex c h = no_hex c h
control_misses (state.Digit d) c h = no_hex c h

stops_misses : (f : Fault) (s : State) (c : ℕ) → StopsAt f s c → Stuck s c
stops_misses f s c (inl h) = control_misses s c h.1
stops_misses f s c (inr h) = missed s h.2
  where
    missed : (s : State) → Misses s c → Stuck s c
    missed state.Plain m = tt
    missed state.Slash m = m
    missed state.Hex m = m
    missed (state.Digit d) m = m

pub scan_stuck : (f : Fault) (ps : List Piece) (s : State) (r : List ℕ) → Good ps → Sane s → Fails f s r → scan state.Plain (spell ps ++ (part s ++ r)) ≡ stuck f r
scan_stuck f (p ∷ ps) s r g sane h = ap (scan state.Plain) (append_assoc (spelling p) (spell ps) (part s ++ r)) ∙ piece_read p (spell ps ++ (part s ++ r)) g.0 ∙ ap (put (byte_of p)) (scan_stuck f ps s r g.1 sane h)
scan_stuck f [] s r g sane h = after s r sane ∙ ends f s r h
  where
    after : (s : State) (r : List ℕ) → Sane s → scan state.Plain (part s ++ r) ≡ scan s r
    after state.Plain r sane = refl
    after state.Slash r sane = refl
    after state.Hex r sane = refl
    after (state.Digit h) r sane = rw sane refl

    step_stops : (f : Fault) (s : State) (c : ℕ) → StopsAt f s c → step s c ≡ move.Stop f
    step_stops f state.Plain c (inl h) = let a = apart_control c 34 h.1 refl in let b = apart_control c 92 h.1 refl in rw (a, b, h.1) (ap move.Stop (sym h.0))
    step_stops f state.Plain c (inr h) = absurd h.2
    step_stops f state.Slash c h = let m : Misses state.Slash c = stops_misses f state.Slash c h in rw (m.0, m.1) (wrong_stops f c state.Slash h)
    step_stops f state.Hex c h = let m : Misses state.Hex c = stops_misses f state.Hex c h in rw m (wrong_stops f c state.Hex h)
    step_stops f (state.Digit d) c h = let m : Misses (state.Digit d) c = stops_misses f (state.Digit d) c h in rw m (wrong_stops f c (state.Digit d) h)

    ends : (f : Fault) (s : State) (r : List ℕ) → Fails f s r → scan s r ≡ stuck f r
    ends f s [] h = ap (λ (z : Fault). stuck z []) (sym h)
    ends f s (c ∷ cs) h = ap (λ (m : Move). follow m (c ∷ cs) cs (λ t. scan t cs)) (step_stops f s c h)
