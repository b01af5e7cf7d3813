-- The parser of lists of sums is exact: a worked example of the laws.
use Rattle.std.proofs.Common.{◌≡◌, ℕ, zero, suc, ◌<◌, ◌≤◌, Bool, true, false, List, [], ◌∷◌, Some, None, refl, subst, ◌∙◌, arith}
use Rattle.parse_laws.specs.declared.fault.Fault.TheVariants.{Syntax}
use Rattle.parse_laws.specs.declared.token.Token.{Token}
use Rattle.parse_laws.specs.declared.token.Token.TheVariants as t
use Rattle.parse_laws.specs.declared.tree.Operator.{Operator}
use Rattle.parse_laws.specs.declared.tree.Sum.{Sum}
use Rattle.parse_laws.specs.declared.tree.Sum.TheVariants as sum
use Rattle.parse_laws.specs.declared.tree.Tall.{Tall}
use Rattle.parse_laws.specs.Parser.{Outcome, Got, Failed, Parser, a_level_down, one_more}
use Rattle.parse_laws.specs.Operators.{operate, chain, below}
use Rattle.parse_laws.specs.Sums.{tall, operator, negative, wrapped, SpellsSum, number, nothing, parens, minus, tighter, binary, alone, followed, SpellsList, one, more, Spells, height}
use Rattle.parse_laws.specs.SumParser.{is_rparen, is_comma, begins_sum, closed, nothing_by, opened, negated, operand_by, operand, sums, list, behind_comma, more_sums}
use Rattle.parse_laws.proofs.Says.{Live}
use Rattle.parse_laws.proofs.Viable.{Viable, ViableMove, same_local, bind_viable, fallback_viable, choice_viable, Takes, then_takes, must_takes, must_viable, pure_viable, level_local, go_move, stop_move, deeper_move, pure_follows, must_follows}
use Rattle.parse_laws.proofs.Loops.{Shrinks, separated_viable, many_reads, local_shrinks, when_shrinks, loop_ends}
use Rattle.parse_laws.proofs.Sound.{Sound, SoundMove, stop_sound, deep_sound, go_sound, pure_sound, refuse_sound, bind_sound, commit_sound, must_sound, separated_sound}
use Rattle.parse_laws.proofs.Operators as ops
use Rattle.parse_laws.proofs.Exact.{Exact}

-- ---- what closes a part

-- a sum ends before these, whatever it is
abbrev pub ends_sum : Token → Bool
ends_sum t.RParen = true
ends_sum t.Comma = true
ends_sum _ = false

-- a list of sums ends with the text alone
abbrev pub ends_list : Token → Bool
ends_list _ = false

quiet : (k : ℕ) (u : Token) → ends_sum u ≡ true → operator k u ≡ None
quiet zero t.RParen e = refl
quiet zero t.Comma e = refl
quiet (suc zero) t.RParen e = refl
quiet (suc zero) t.Comma e = refl
quiet (suc (suc k)) t.RParen e = refl
quiet (suc (suc k)) t.Comma e = refl
quiet k _ e = absurd cc

calm : (rest : List Token) → ops.Calm sums 0 rest
calm [] = tt
calm (u ∷ rest) = λ j lt. absurd (omega arith)

-- no operator is a closer
calm_at : (u : Token) (rest : List Token) → ends_sum u ≡ true → ops.Calm sums 2 (u ∷ rest)
calm_at u rest e = λ j lt. quiet j u e

leaf : (r : ℕ) (lower : ℕ → Parser Token (Tall Sum)) → Live ends_sum (λ z o. operand r lower z ≡ o)
unfolding operand
leaf zero lower = record { word = t.Number 0 ∷ []; value = tall (sum.Number 0) 0; reads = λ z q. refl }
leaf (suc r) lower = record { word = t.Number 0 ∷ []; value = tall (sum.Number 0) 0; reads = λ z q. refl }

number_read : (n : ℕ) (w : List Token) (r : ℕ) → operand r (below sums r) (t.Number n ∷ w) ≡ Got (tall (sum.Number n) 0) w
unfolding operand
number_read n w zero = refl
number_read n w (suc r) = refl

-- ---- viable

closed_viable : {r : ℕ} {inside : ℕ → Parser Token (Tall Sum)} → Viable ends_sum r inside → Viable ends_sum r (λ s. closed (inside s))
closed_viable v = bind_viable v (λ a. must_follows is_rparen t.RParen refl refl pure_viable)

closed_takes : {r : ℕ} {inside : ℕ → Parser Token (Tall Sum)} → Viable ends_sum r inside → Takes (closed (inside r))
closed_takes v = then_takes v.local (λ a. (must_viable is_rparen t.RParen refl (pure_viable {ends = ends_sum})).local) (λ a. must_takes {r = 0} is_rparen (pure_viable {ends = ends_sum}))

-- with room enough, a token that begins a sum begins one in parentheses
begun : (u : Token) → begins_sum u ≡ true → (s : ℕ) × Live ends_sum (λ z o. closed (chain sums s 2) (u ∷ z) ≡ o)
unfolding operand opened
begun (t.Number n) b = (
  0,
  record {
    word = t.RParen ∷ [];
    value = wrapped (tall (sum.Number n) 0);
    reads = λ z q. rw (ops.operand_reads sums 0 2 (t.Number n ∷ t.RParen ∷ z) (t.RParen ∷ z) (tall (sum.Number n) 0) refl (calm_at t.RParen z refl)) refl;
  },
)
begun t.LParen b = (
  0,
  record {
    word = t.RParen ∷ t.RParen ∷ [];
    value = wrapped (tall sum.Nothing 0);
    reads = λ z q. rw (ops.operand_reads sums 0 2 (t.LParen ∷ t.RParen ∷ t.RParen ∷ z) (t.RParen ∷ z) (tall sum.Nothing 0) refl (calm_at t.RParen z refl)) refl;
  },
)
begun t.Minus b = (
  1,
  record {
    word = t.Number 0 ∷ t.RParen ∷ [];
    value = wrapped (negative (tall (sum.Number 0) 0));
    reads = λ z q.
        let inside : chain sums 0 0 (t.Number 0 ∷ t.RParen ∷ z) ≡ Got (tall (sum.Number 0) 0) (t.RParen ∷ z) = ops.operand_reads sums 0 0 (t.Number 0 ∷ t.RParen ∷ z) (t.RParen ∷ z) (tall (sum.Number 0) 0) refl (calm (t.RParen ∷ z)) in
        rw (ops.operand_reads sums 1 2 (t.Minus ∷ t.Number 0 ∷ t.RParen ∷ z) (t.RParen ∷ z) (negative (tall (sum.Number 0) 0)) (rw inside refl) (calm_at t.RParen z refl)) refl;
  },
)
begun _ b = absurd cc

no_sum : (s : ℕ) → closed (chain sums s 2) [] ≡ Failed Syntax []
unfolding operand
no_sum s = rw (ops.operand_fails sums s 2 [] [] Syntax refl) refl

no_sum_at : (s : ℕ) (u : Token) (rest : List Token) → begins_sum u ≡ false → closed (chain sums s 2) (u ∷ rest) ≡ Failed Syntax (u ∷ rest)
unfolding operand
no_sum_at s (t.Number n) rest b = absurd cc
no_sum_at s t.LParen rest b = absurd cc
no_sum_at s t.Minus rest b = absurd cc
no_sum_at zero u rest b = rw (ops.operand_fails sums 0 2 (u ∷ rest) (u ∷ rest) Syntax refl) refl
no_sum_at (suc s) u rest b = rw (ops.operand_fails sums (suc s) 2 (u ∷ rest) (u ∷ rest) Syntax refl) refl

nothing_moves : {r : ℕ} (u : Token) → ViableMove ends_sum r (λ s. nothing_by u)
nothing_moves t.RParen = go_move pure_viable
nothing_moves _ = stop_move

opened_viable : (r : ℕ) → ((m : ℕ) → r ≡ suc m → (k : ℕ) → Viable ends_sum m (λ s. chain sums s k)) → Viable ends_sum r (λ s. opened s (below sums s 2))
unfolding opened
opened_viable r h =
    fallback_viable nothing_moves (takes r h) (same_local same (level_local (λ m e. (closed_viable (h m e 2)).local) begun no_sum no_sum_at))
    t.RParen (λ s le. refl) pure_viable
  where
    takes : (r : ℕ) → ((m : ℕ) → r ≡ suc m → (k : ℕ) → Viable ends_sum m (λ s. chain sums s k)) → Takes (a_level_down begins_sum (λ _. closed (below sums r 2)) r)
    takes zero h = λ ts a e. absurd cc
    takes (suc m) h = closed_takes (h m refl 2)

    same : (s : ℕ) (z : List Token) → a_level_down begins_sum (λ m. closed (chain sums m 2)) s z ≡ a_level_down begins_sum (λ m. closed (below sums s 2)) s z
    same zero z = refl
    same (suc s) z = refl

negated_viable : {r : ℕ} {lower : ℕ → Parser Token (Tall Sum)} → Viable ends_sum r lower → Viable ends_sum r (λ s. negated (lower s))
negated_viable v = bind_viable v (λ a. pure_follows (λ u e. e))

minus_live : Live ends_sum (λ z o. negated (chain sums 0 0) z ≡ o)
minus_live = record {
  word = t.Number 0 ∷ [];
  value = negative (tall (sum.Number 0) 0);
  reads = λ z q. rw (ops.operand_reads sums 0 0 (t.Number 0 ∷ z) z (tall (sum.Number 0) 0) (number_read 0 z 0) (calm z)) refl;
}

operand_moves : (r : ℕ) → ((m : ℕ) → r ≡ suc m → (k : ℕ) → Viable ends_sum m (λ s. chain sums s k)) → (u : Token) → ViableMove ends_sum r (λ s. operand_by s (below sums s) u)
operand_moves r h (t.Number n) = go_move pure_viable
operand_moves r h t.LParen = go_move (opened_viable r h)
operand_moves r h t.Minus = deeper_move refl (λ s. refl) minus_live (λ m e. negated_viable (h m e 0))
operand_moves r h _ = stop_move

operand_viable : (r : ℕ) → ((m : ℕ) → r ≡ suc m → (k : ℕ) → Viable ends_sum m (λ s. chain sums s k)) → Viable ends_sum r (λ s. operand s (below sums s))
unfolding operand
operand_viable r h = choice_viable (operand_moves r h) (t.Number 0) (λ s le. refl) pure_viable

pub sum_viable : (r k : ℕ) → Viable ends_sum r (λ s. chain sums s k)
sum_viable = ops.chain_viable sums ends_sum quiet leaf operand_viable

list_viable : (r : ℕ) → Viable ends_list r list
unfolding list
list_viable r = separated_viable is_comma followed alone (λ u e. absurd cc) (λ u e. absurd cc) (sum_viable r 2)

-- ---- sound

abbrev Fits : ℕ → ℕ → List Token → List Token → Tall Sum → Type 0
Fits r k ts rest a = SpellsSum k ts rest a × (a.height ≤ r)

rparen_only : (u : Token) → is_rparen u ≡ true → u ≡ t.RParen
rparen_only t.RParen e = refl
rparen_only _ e = absurd cc

comma_only : (u : Token) → is_comma u ≡ true → u ≡ t.Comma
comma_only t.Comma e = refl
comma_only _ e = absurd cc

closed_sound : (r : ℕ) (inside : Parser Token (Tall Sum)) → Sound inside (Fits r 2) → Sound (closed inside) (λ mid rest a. Fits (suc r) 0 (t.LParen ∷ mid) rest a)
closed_sound r inside x = bind_sound x (λ a. must_sound is_rparen t.RParen rparen_only (pure_sound (λ rest ts y. (parens y.0, omega (arith, y.1)))))

opened_sound : (r : ℕ) → ((m : ℕ) → r ≡ suc m → (k : ℕ) → Sound (chain sums m k) (Fits m k)) → Sound (opened r (below sums r 2)) (λ mid rest a. Fits r 0 (t.LParen ∷ mid) rest a)
unfolding opened
opened_sound r h = commit_sound move (inner r h)
  where
    move : (u : Token) → SoundMove (λ mid rest a. Fits r 0 (t.LParen ∷ u ∷ mid) rest a) (nothing_by u)
    move t.RParen = go_sound (pure_sound (λ ts. (nothing, omega arith)))
    move _ = stop_sound

    inner : (r : ℕ) → ((m : ℕ) → r ≡ suc m → (k : ℕ) → Sound (chain sums m k) (Fits m k)) → Sound (a_level_down begins_sum (λ _. closed (below sums r 2)) r) (λ mid rest a. Fits r 0 (t.LParen ∷ mid) rest a)
    inner zero h = record { spelled = λ ts a rest e. absurd cc }
    inner (suc m) h = closed_sound m (chain sums m 2) (h m refl 2)

operand_sound : (r : ℕ) → ((m : ℕ) → r ≡ suc m → (k : ℕ) → Sound (chain sums m k) (Fits m k)) → Sound (operand r (below sums r)) (Fits r 0)
unfolding operand
operand_sound r h = commit_sound (move r h) refuse_sound
  where
    move : (r : ℕ) → ((m : ℕ) → r ≡ suc m → (k : ℕ) → Sound (chain sums m k) (Fits m k)) → (u : Token) → SoundMove (λ mid rest a. Fits r 0 (u ∷ mid) rest a) (operand_by r (below sums r) u)
    move r h (t.Number n) = go_sound (pure_sound (λ ts. (number, omega arith)))
    move r h t.LParen = go_sound (opened_sound r h)
    move zero h t.Minus = deep_sound
    move (suc m) h t.Minus = go_sound (bind_sound (h m refl 0) (λ a. pure_sound (λ rest ts x. (minus x.0, omega (arith, x.1)))))
    move r h _ = stop_sound

sum_sound : (r k : ℕ) → Sound (chain sums r k) (Fits r k)
sum_sound = ops.chain_sound sums SpellsSum (λ k ts rest a d. tighter d) (λ k ts mid rest a b o t d e f. binary d e f) (λ o a b. refl) operand_sound

list_sound : (r : ℕ) → Sound (list r) (λ ts rest all. SpellsList ts rest all × (all.height ≤ r))
unfolding list
list_sound r =
    separated_sound is_comma followed alone (λ ts rest x h. (one h.0, omega (arith, h.1)))
    (λ ts mid rest u all x e l h. (more (subst (λ (w : Token). SpellsList ts (w ∷ mid) all) (comma_only u e) l.0) h.0, omega (arith, l.1, h.1))) (sum_sound r 2)

-- ---- complete

one_level : (k : ℕ) (u : Token) (o : Operator) → operator k u ≡ Some o → (j : ℕ) → j < k → operator j u ≡ None
one_level (suc zero) t.Plus o e zero lt = refl
one_level (suc zero) t.Plus o e (suc j) lt = absurd (omega arith)
one_level zero t.Plus o e j lt = absurd (omega arith)
one_level zero t.Times o e j lt = absurd (omega arith)
one_level _ _ o e j lt = absurd cc

pub shrinks : (r k : ℕ) (a : Tall Sum) (u : Token) → Shrinks (operate sums r k (below sums r k) a u)
shrinks = ops.operate_shrinks sums ends_sum quiet leaf sum_viable

parens_found : (r : ℕ) (ts rest : List Token) (a : Tall Sum) → chain sums r 2 ts ≡ Got a (t.RParen ∷ rest) → chain sums (suc r) 0 (t.LParen ∷ ts) ≡ Got (wrapped a) rest
unfolding operand opened
parens_found r ts rest a h = ops.operand_reads sums (suc r) 0 (t.LParen ∷ ts) rest (wrapped a) (go ts h) (calm rest)
  where
    go : (ts : List Token) → chain sums r 2 ts ≡ Got a (t.RParen ∷ rest) → opened (suc r) (chain sums r 2) ts ≡ Got (wrapped a) rest
    go [] h = rw h refl
    go (t.RParen ∷ w) h = absurd (differ (chain sums r 2 (t.RParen ∷ w)) (ops.operand_fails sums r 2 (t.RParen ∷ w) (t.RParen ∷ w) Syntax refl) h)
      where
        differ : (o : Outcome Token (Tall Sum)) → o ≡ Failed Syntax (t.RParen ∷ w) → o ≡ Got a (t.RParen ∷ rest) → ⊥
        differ o d e = cc
    go (u ∷ w) h = rw h refl

operand_found : (r : ℕ) (ts rest : List Token) (a : Tall Sum) → operand r (below sums r) ts ≡ Got a rest → chain sums r 0 ts ≡ Got a rest
operand_found r ts rest a e = ops.operand_reads sums r 0 ts rest a e (calm rest)

nothing_read : (w : List Token) (r : ℕ) → operand r (below sums r) (t.LParen ∷ t.RParen ∷ w) ≡ Got (tall sum.Nothing 0) w
unfolding operand opened
nothing_read w zero = refl
nothing_read w (suc r) = refl

minus_read : (r : ℕ) (ts w : List Token) (a : Tall Sum) → chain sums r 0 ts ≡ Got a w → operand (suc r) (chain sums r) (t.Minus ∷ ts) ≡ Got (negative a) w
unfolding operand
minus_read r ts w a h = rw h refl

pub sum_found : {k : ℕ} {ts rest : List Token} {a : Tall Sum} → SpellsSum k ts rest a → (r : ℕ) → a.height ≤ r → ops.Found sums r k ts rest a
sum_found (number {n = n} {rest = w}) r le = operand_found r (t.Number n ∷ w) w (tall (sum.Number n) 0) (number_read n w r)
sum_found (nothing {rest = w}) r le = operand_found r (t.LParen ∷ t.RParen ∷ w) w (tall sum.Nothing 0) (nothing_read w r)
sum_found (parens {ts = ts} {rest = w} {a = a} d) zero le = absurd (omega arith)
sum_found (parens {ts = ts} {rest = w} {a = a} d) (suc r) le = parens_found r ts w a (ops.found_ends sums r 2 ts (t.RParen ∷ w) a (sum_found d r (omega arith)) (calm_at t.RParen w refl))
sum_found (minus {ts = ts} {rest = w} {a = a} d) zero le = absurd (omega arith)
sum_found (minus {ts = ts} {rest = w} {a = a} d) (suc r) le = operand_found (suc r) (t.Minus ∷ ts) w (negative a) (minus_read r ts w a (sum_found d r (omega arith)))
sum_found (tighter {k = k} {ts = ts} {rest = w} {a = a} d) r le = ops.found_tighter sums r k ts w a (sum_found d r le)
sum_found (binary {k = k} {ts = ts} {mid = mid} {rest = w} {a = a} {b = b} {o = o} {t = u} d e f) zero le = absurd (omega arith)
sum_found (binary {k = k} {ts = ts} {mid = mid} {rest = w} {a = a} {b = b} {o = o} {t = u} d e f) (suc r) le =
    ops.found_binary sums r k ts mid w a b o u (shrinks (suc r) k) (one_level k u o e) (omega arith) (sum_found d (suc r) (omega arith)) e (sum_found f r (omega arith))

pub comma_shrinks : (r : ℕ) (u : Token) → Shrinks (behind_comma r u)
comma_shrinks r u = when_shrinks (is_comma u) (chain sums r 2) (local_shrinks (sum_viable r 2).local)

list_found : {ts rest : List Token} {all : Tall (List Sum)} → SpellsList ts rest all → (r : ℕ) → all.height ≤ r → ops.Calm sums 2 rest → list r ts ≡ more_sums r all rest
unfolding list
list_found (one {ts = ts} {rest = w} {a = a} d) r le c = rw (ops.found_ends sums r 2 ts w a (sum_found d r le) c) refl
list_found (more {ts = ts} {mid = mid} {rest = w} {all = all} {a = a} l d) r le c =
    list_found l r (omega arith) (calm_at t.Comma mid refl)
    ∙ many_reads (behind_comma r) followed (comma_shrinks r) all a (t.Comma ∷ mid) w
    (ops.found_ends sums r 2 mid w a (sum_found d r (omega arith)) c)

-- ---- exact

pub list_exact : Exact ends_list Spells height list
list_exact = record {
  viable = list_viable;
  sound = λ r ts a e. (list_sound r).spelled ts a [] e;
  complete = λ r ts a d le. list_found d r le tt ∙ loop_ends (one_more (behind_comma r) followed) a;
}
