-- The sample, computed.
use Rattle.std.proofs.Common.{[], arith, refl, ◌++◌, ◌∷◌}
use Rattle.std.specs.Prelude.{None, codes}
use Rattle.c_tree.specs.Lined.{Function, Give, Lock, Return, Take, TryLock, Unlock, Wait}
use Rattle.c_tree.specs.Expressions.{Place}
use Rattle.c_rules.specs.Samples.{add, clear, main_of, run_of, single, statements}
use Rattle.kept_rules.proofs.Same.{function_edit}
use Rattle.kept_rules.specs.Edit.{EditOf, Edits, PutTakes}
use Rattle.kept_rules.specs.Programs.{IsFunctionEdit}
use Rattle.kept_rules.specs.Samples.{PutSample, before_it, with_it}
use Rattle.kept_rules.specs.Uses.{Puts, putting}

abbrev a : Place
a = single (codes "a")

abbrev c : Place
c = single (codes "c")

-- the two functions before, and main, are the same
kept_function : (f : Function) → IsFunctionEdit (putting 1) f f
kept_function f = function_edit 1 f f refl

acts : Edits (putting 1) (statements (with_it ++ Return 39 None ∷ [])) (statements (before_it ++ Return 39 None ∷ []))
acts =
    Edits.put (Take 31 0) _ _ refl
    (Edits.keep (Lock 31 a) (Lock 31 a) _ _ (EditOf.same (Lock 31 a) (Lock 31 a) refl refl refl)
    (Edits.keep (Wait 32 c a (0 ∷ [])) (Wait 32 c a []) _ _ (EditOf.wait 32 32 c a (0 ∷ []) [] (PutTakes.put 0 [] [] (omega arith) PutTakes.none))
    (Edits.keep (Unlock 34 a) (Unlock 33 a) _ _ (EditOf.same (Unlock 34 a) (Unlock 33 a) refl refl refl)
    (Edits.put (Give 34 0) _ _ refl
    (Edits.put (Take 35 0) _ _ refl
    (Edits.keep (TryLock 35 a (statements (Unlock 36 a ∷ Give 36 0 ∷ [])) (statements (Give 37 0 ∷ []))) (TryLock 34 a (statements (Unlock 35 a ∷ [])) (statements [])) _ _
    (EditOf.attempt 35 34 a (statements (Unlock 36 a ∷ Give 36 0 ∷ [])) (statements (Give 37 0 ∷ [])) (statements (Unlock 35 a ∷ [])) (statements [])
    (Edits.keep (Unlock 36 a) (Unlock 35 a) _ _ (EditOf.same (Unlock 36 a) (Unlock 35 a) refl refl refl) (Edits.put (Give 36 0) _ _ refl Edits.none))
    (Edits.put (Give 37 0) _ _ refl Edits.none))
    (Edits.keep (Return 39 None) (Return 39 None) _ _ (EditOf.same (Return 39 None) (Return 39 None) refl refl refl) Edits.none)))))))

pub put_sample : PutSample
put_sample = record {
  keeps = (refl, refl);
  put = record {
    declared = record { ints = refl; arrays = refl; mutexes = refl; conds = refl; threads = refl };
    functions =
        Puts.more add add _ _ (kept_function add) (Puts.more clear clear _ _ (kept_function clear)
        (Puts.more (run_of with_it) (run_of before_it) _ _ (record { name = refl; kind = refl; params = refl; main = refl; body = acts })
        (Puts.more (main_of []) (main_of []) _ _ (kept_function (main_of [])) Puts.none)));
    counted = refl;
    filled = refl;
    few = omega arith;
    monitors = omega arith;
  };
  kept = refl;
}
