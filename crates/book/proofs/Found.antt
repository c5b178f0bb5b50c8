-- What a record that is found has, and where a refusal lies.
use Rattle.std.proofs.Common.{◌≡◌, ℕ, zero, suc, ◌+◌, ◌-◌, ◌*◌, ◌<◌, ◌≤◌, Bool, true, false, cond, ltb, leb, List, [], ◌∷◌, ◌++◌, length, get_or, take, drop, Some, None, Ok, Err, Option, Result, refl, arith, ltb-true}
use Rattle.std.proofs.lemmas.List.{length-drop, length-take-le}
use Rattle.codelist.specs.declared.lines.Line.{Line as CodeLine}
use Rattle.knots.specs.Knots.{all_ranged, lined}
use Rattle.book.specs.declared.ops.Op.{Op}
use Rattle.book.specs.declared.ops.Op.TheVariants.{X, C, R, Neg, Abs, Add, Sub, Mul, Div, Max, Chi, Curve, End, Table}
use Rattle.book.specs.declared.refusals.Fault.{Fault}
use Rattle.book.specs.declared.refusals.Fault.TheVariants.{Misplaced, Operand, Range, TooMany, Knots}
use Rattle.book.specs.declared.refusals.Layer.{Layer}
use Rattle.book.specs.declared.refusals.Layer.TheVariants.{Record as RecordLayer}
use Rattle.book.specs.declared.refusals.Refusal.{Refusal}
use Rattle.book.specs.Ops.{op_of, layer_of, operand_bytes, command_of}
use Rattle.book.specs.Lines.{Inside, a_line, closes, stops, inside, refused, go_on, lines_from}
use Rattle.book.specs.Records.{Said, a_curve, a_table, Entry, size_of, Found, found, stopped, tag_of, table_body, body_reading, body_knots, curve_by, table_by, table_found, outside_by, outside_if, outside_of, record_at}

-- ---- lines: END, and a refusal, lie in what is left of the book
abbrev pub LinesSay : ℕ → ℕ → Result (List CodeLine × ℕ) Refusal → Type 0
LinesSay at n (Ok p) = (at ≤ p.1) × (p.1 < at + n)
LinesSay at n (Err r) = (at ≤ r.offset) × (r.offset ≤ at + n)

say_on : (at n : ℕ) (r : Result (List CodeLine × ℕ) Refusal) → LinesSay (suc at) n r → LinesSay at (suc n) r
say_on at n (Ok p) h = (omega (arith, h.0), omega (arith, h.1))
say_on at n (Err r) h = (omega (arith, h.0), omega (arith, h.1))

pub lines_say : (ls : List CodeLine) (w at : ℕ) (bs : List ℕ) → LinesSay at (length bs) (lines_from ls w at bs)
lines_say ls w at [] = (omega arith, omega arith)
lines_say ls (suc w) at (b ∷ bs) = say_on at (length bs) (lines_from ls w (suc at) bs) (lines_say ls w (suc at) bs)
lines_say ls zero at (b ∷ bs) = by (inside (length ls) (b ∷ bs)) (λ l w. lines_say (ls ++ (l ∷ [])) w (suc at) bs)
  where
    by : (i : Inside) → ((l : CodeLine) (w : ℕ) → LinesSay (suc at) (length bs) (lines_from (ls ++ (l ∷ [])) w (suc at) bs)) → LinesSay at (suc (length bs)) (go_on (λ l w. lines_from (ls ++ (l ∷ [])) w (suc at) bs) ls at i)
    by (a_line l w) next = say_on at (length bs) (lines_from (ls ++ (l ∷ [])) w (suc at) bs) (next l w)
    by closes next = (omega arith, omega arith)
    by (stops f y) next = (omega arith, omega arith)

-- ---- records
-- room for a record
abbrev pub Room : ℕ → ℕ → Said → Type 0
Room c t (a_curve ls) = c < 8
Room c t (a_table n ks) = t < 8

pub record EntrySays (c t : ℕ) (bs : List ℕ) (e : Entry) : Type 0 where
  pub size : size_of e ≤ length bs
  pub room : Room c t e.said

abbrev pub FoundSays : ℕ → ℕ → ℕ → List ℕ → Found → Type 0
FoundSays c t at bs (found e) = EntrySays c t bs e
FoundSays c t at bs (stopped r) = (at ≤ r.offset) × (r.offset ≤ at + length bs)

here : (c t at : ℕ) (bs : List ℕ) (f : Fault) (y : Layer) → FoundSays c t at bs (stopped (refused f y at))
here c t at bs f y = (omega arith, omega arith)

curve_says : (c t at : ℕ) (bs : List ℕ) → c < 8 → 8 < length bs → (r : Result (List CodeLine × ℕ) Refusal) → LinesSay (at + 9) (length (drop 9 bs)) r → FoundSays c t at bs (curve_by at bs r)
curve_says c t at bs room h (Ok p) s =
    let l = length-drop 9 bs in
    let n = p.1 - (at + 9) in
    let k : length (take n (drop 9 bs)) ≡ n = length-take-le n (drop 9 bs) (omega (arith, s.1)) in
    record { size = omega (arith, s.0, s.1); room = room }
curve_says c t at bs room h (Err r) s = let l = length-drop 9 bs in (omega (arith, s.0), omega (arith, s.1))

table_says : (c t at : ℕ) (bs : List ℕ) → 10 + 8 * get_or bs 10 0 < length bs → FoundSays c t at bs (table_found t at bs)
table_says c t at bs h = by (leb (body_reading (table_body bs)) 7) (all_ranged (body_knots (table_body bs))) (ltb t 8) (lined (body_knots (table_body bs))) refl
  where
    by : (a b d l : Bool) → ltb t 8 ≡ d → FoundSays c t at bs (table_by at (tag_of bs) (table_body bs) (cond a (cond b (cond d (cond l None (Some Knots)) (Some TooMany)) (Some Range)) (Some Operand)))
    by true true true true r =
        let l = length-drop 9 bs in
        let k : length (table_body bs) ≡ 2 + 8 * get_or bs 10 0 = length-take-le (2 + 8 * get_or bs 10 0) (drop 9 bs) (omega arith) in
        record { size = omega arith; room = ltb-true t 8 r }
    by true true true false r = here c t at bs Knots RecordLayer
    by true true false l r = here c t at bs TooMany RecordLayer
    by true false d l r = here c t at bs Range RecordLayer
    by false b d l r = here c t at bs Operand RecordLayer

whole_says : (c t at : ℕ) (bs : List ℕ) (op : Op) → operand_bytes op bs < length bs → FoundSays c t at bs (outside_by c t at bs (command_of op bs))
whole_says c t at bs X h = here c t at bs Misplaced (layer_of X)
whole_says c t at bs C h = here c t at bs Misplaced (layer_of C)
whole_says c t at bs R h = here c t at bs Misplaced (layer_of R)
whole_says c t at bs Neg h = here c t at bs Misplaced (layer_of Neg)
whole_says c t at bs Abs h = here c t at bs Misplaced (layer_of Abs)
whole_says c t at bs Add h = here c t at bs Misplaced (layer_of Add)
whole_says c t at bs Sub h = here c t at bs Misplaced (layer_of Sub)
whole_says c t at bs Mul h = here c t at bs Misplaced (layer_of Mul)
whole_says c t at bs Div h = here c t at bs Misplaced (layer_of Div)
whole_says c t at bs Max h = here c t at bs Misplaced (layer_of Max)
whole_says c t at bs Chi h = here c t at bs Misplaced (layer_of Chi)
whole_says c t at bs End h = here c t at bs Misplaced (layer_of End)
whole_says c t at bs Table h = table_says c t at bs h
whole_says c t at bs Curve h = by (ltb c 8) refl
  where
    by : (b : Bool) → ltb c 8 ≡ b → FoundSays c t at bs (cond b (curve_by at bs (lines_from [] 0 (at + 9) (drop 9 bs))) (stopped (refused TooMany RecordLayer at)))
    by true e = curve_says c t at bs (ltb-true c 8 e) h (lines_from [] 0 (at + 9) (drop 9 bs)) (lines_say [] 0 (at + 9) (drop 9 bs))
    by false e = here c t at bs TooMany RecordLayer

pub record_says : (c t at : ℕ) (bs : List ℕ) → FoundSays c t at bs (record_at c t at bs)
record_says c t at bs = by (op_of (get_or bs 0 0))
  where
    if_whole : (op : Op) (b : Bool) → ltb (operand_bytes op bs) (length bs) ≡ b → FoundSays c t at bs (outside_if c t at bs op (cond b (Some (command_of op bs)) None))
    if_whole op true e = whole_says c t at bs op (ltb-true (operand_bytes op bs) (length bs) e)
    if_whole op false e = (omega arith, omega arith)

    by : (o : Option Op) → FoundSays c t at bs (outside_of c t at bs o)
    by None = (omega arith, omega arith)
    by (Some op) = if_whole op (ltb (operand_bytes op bs) (length bs)) refl
