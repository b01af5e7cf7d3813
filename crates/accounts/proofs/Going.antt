-- How threads go from point to point.
use Rattle.std.proofs.Common.{◌≡◌, ℕ, zero, suc, List, [], ◌∷◌, Option, Some, None, inl, inr, refl, sym, ap, ◌∙◌, subst}
use Rattle.std.specs.Prelude.{slice_get}
use Rattle.std.proofs.lemmas.Option.{same_Some}
use Rattle.c_tree.specs.Lined.{bare_program}
use Rattle.outlines.specs.Outline.{Thread}
use Rattle.outlines.specs.Moves.{Position, MovesTo}
use Rattle.outlines.specs.Rows.{way, edge}
use Rattle.outline_laws.specs.Nets.{IsNetOf}
use Rattle.outline_laws.proofs.Placed.{edge_of}
use Rattle.net_laws.specs.Net.{Net}
use Rattle.outline_runs.specs.Moving.{body_of, Moves}
use Rattle.outline_runs.proofs.Reaching.{steps_move}
use Rattle.reached_states.specs.Counts.{tokens_held}
use Rattle.accounts.specs.Points.{IsLocated, GoesIn}
use Rattle.accounts.specs.Laws.{StepsGoAlongEdges}
use Rattle.accounts.proofs.Located.{point_within, goes_along}

pub body_is : (es : List Thread) (u : ℕ) (th : Thread) → slice_get es u ≡ Some th → body_of es u ≡ th.body
body_is [] u th is = absurd (cc is)
body_is (e ∷ es) zero th is = ap (λ x. x.body) (same_Some e th is)
body_is (e ∷ es) (suc u) th is = body_is es u th is

-- where one thread, if there is one, is behind a step, and how it came there
record GoneOne (n : Net) (es : List Thread) (u p : ℕ) (y : Position) (before after : ℕ → ℕ) : Type 0 where
  to : ℕ
  located : (th : Thread) → slice_get es u ≡ Some th → IsLocated es u th y to
  goes : (th : Thread) → slice_get es u ≡ Some th → GoesIn n p to before after

module _ (n : Net) (es : List Thread) (net : IsNetOf n es) (u p : ℕ) (x y : Position) (before after : ℕ → ℕ) where
  gone_thread : (th : Thread) → slice_get es u ≡ Some th → IsLocated es u th x p → Moves (body_of es u) x y before after → (q : ℕ) × IsLocated es u th y q × GoesIn n p q before after
  gone_thread th found at (inl stays) = (p, subst (λ z. IsLocated es u th z p) (sym stays.there) at, inl (record { there = refl; keeps = stays.keeps }))
  gone_thread th found at (inr goes) =
      let along = goes_along es u th found x p at goes.does y (subst (λ body. MovesTo body x goes.does y) (body_is es u th found) goes.edge) in (
        along.0,
        along.2,
        inr (record {
          edge = edge p (way goes.does along.0);
          has = edge_of n es net p (way goes.does along.0) (point_within es u th found x p at) along.1;
          from = refl;
          to = refl;
          alters = goes.alters;
        }),
      )

  gone : ((th : Thread) → slice_get es u ≡ Some th → IsLocated es u th x p) → Moves (body_of es u) x y before after → GoneOne n es u p y before after
  gone at moves = by (slice_get es u) refl
    where
      by : (o : Option Thread) → slice_get es u ≡ o → GoneOne n es u p y before after
      by None none = record {
        to = p;
        located = λ th found. let bad : None ≡ Some th = sym none ∙ found in absurd (cc bad);
        goes = λ th found. let bad : None ≡ Some th = sym none ∙ found in absurd (cc bad);
      }
      by (Some e) is =
          let all = gone_thread e is (at e is) moves in
          record {
            to = all.0;
            located = λ th found. subst (λ z. IsLocated es u z y all.0) (same_Some e th (sym is ∙ found)) all.1;
            goes = λ th found. all.2;
          }

pub steps_go_along : StepsGoAlongEdges
steps_go_along p es places n input s points e done next has net reached at leads =
    let moved = steps_move p es places input s at.positions e done next has reached at.standing leads in
    let each : (u : ℕ) → GoneOne n es u (points u) (moved.0 u) (tokens_held (bare_program p) s u) (tokens_held (bare_program p) next u) =
    λ u. gone n es net u (points u) (at.positions u) (moved.0 u) (tokens_held (bare_program p) s u) (tokens_held (bare_program p) next u) (at.located u) (moved.2 u) in (
      λ u. (each u).to,
      record { positions = moved.0; standing = moved.1; located = λ u th found. (each u).located th found },
      λ u th found. (each u).goes th found,
    )
