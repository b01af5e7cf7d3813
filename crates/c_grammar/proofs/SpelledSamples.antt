-- The samples that are spelled: one constructor for each production and reading.
use Rattle.std.proofs.Common.{ℕ, zero, suc, List, ◌∷◌, refl}
use Rattle.c_lexer.specs.Lexeme.{lexeme}
use Rattle.c_lexer.specs.Words.{name_of, number_of}
use Rattle.c_lexer.specs.Signs.{single, double, triple}
use Rattle.c_lexer.specs.Classes.{is_word}
use Rattle.c_lexer.specs.Directives.{after_include, definition, defined_name, defined_number}
use Rattle.c_tree.specs.Expressions as tree
use Rattle.c_grammar.specs.Items.{What, Item, at}
use Rattle.c_grammar.specs.Levels.{Tall}
use Rattle.c_grammar.specs.Commas as comma
use Rattle.c_grammar.specs.Expressions as e
use Rattle.c_grammar.specs.Expressions.{SpellsUnary, SpellsExpression, NoCast}
use Rattle.c_grammar.specs.Simple as x
use Rattle.c_grammar.specs.Statements as st
use Rattle.c_grammar.specs.Declarations as d
use Rattle.c_grammar.specs.Programs as p
use Rattle.c_grammar.specs.Spelled.{Declarations, MonitorCalls, Functions, Threads, Philosophers, DefinedKeyword, Assignments, Calls, LibraryCalls, Expressions, Casts, Choices, Trylocks, Loops, Lines}

-- An expression without operators, where operators may stand.
within : (k : ℕ) {ts rest : List Item} {a : Tall tree.Expr} → SpellsUnary ts rest a → SpellsExpression k ts rest a
within zero u = e.unary u
within (suc k) u = e.tighter (within k u)

whole : {ts rest : List Item} {a : Tall tree.Expr} → SpellsUnary ts rest a → SpellsExpression 6 ts rest a
whole u = within 6 u

from1 : {ts rest : List Item} {a : Tall tree.Expr} → SpellsExpression 1 ts rest a → SpellsExpression 6 ts rest a
from1 h = e.tighter (e.tighter (e.tighter (e.tighter (e.tighter h))))

from2 : {ts rest : List Item} {a : Tall tree.Expr} → SpellsExpression 2 ts rest a → SpellsExpression 6 ts rest a
from2 h = e.tighter (e.tighter (e.tighter (e.tighter h)))

from3 : {ts rest : List Item} {a : Tall tree.Expr} → SpellsExpression 3 ts rest a → SpellsExpression 6 ts rest a
from3 h = e.tighter (e.tighter (e.tighter h))

from4 : {ts rest : List Item} {a : Tall tree.Expr} → SpellsExpression 4 ts rest a → SpellsExpression 6 ts rest a
from4 h = e.tighter (e.tighter h)

from5 : {ts rest : List Item} {a : Tall tree.Expr} → SpellsExpression 5 ts rest a → SpellsExpression 6 ts rest a
from5 h = e.tighter h

no_cast : {l k : ℕ} {ts : List Item} → NoCast (at l (What.Number k) ∷ ts)
no_cast rest h = elim h [ ]

pub declarations_are_spelled : Declarations
unfolding lexeme name_of number_of single double is_word after_include definition defined_name defined_number
declarations_are_spelled =
    p.plain (p.then_slots (p.then_objects (p.then_objects (p.then_objects (p.then_cells (p.then_definition p.none)
    (d.cells st.present (comma.more (comma.more (comma.more (comma.one (d.scalar refl)) (d.scalar_by refl d.plain)) (d.array refl)) (d.array_by refl (comma.more (comma.one d.plain) d.negative)))))
    (d.objects {o = d.mutex} st.absent (comma.more (comma.one (d.single_ready refl)) (d.several_ready refl (comma.more (comma.one d.initial) d.initial)))))
    (d.objects {o = d.condition} st.present (comma.more (comma.one (d.single_ready refl)) (d.SpellsObject.several refl))))
    (d.objects {o = d.mutex} st.absent (comma.one (d.SpellsObject.single refl))))
    (st.slots st.present (comma.more (comma.one (st.SpellsSlot.one refl)) (st.several refl))))

pub monitor_calls_are_spelled : MonitorCalls
unfolding lexeme name_of number_of single double triple is_word after_include definition defined_name defined_number
monitor_calls_are_spelled =
    p.with_capacities (d.capacities (comma.more (comma.one x.number) x.number) d.prototype d.prototype d.SpellsWaitPrototype.present) (p.then_function p.none
    (d.function st.absent (d.thread_function refl refl) (st.SpellsBody.then (st.SpellsBody.then (st.SpellsBody.then (st.SpellsBody.then st.SpellsBody.none
    (st.simple x.take))
    (st.simple x.give))
    (st.simple (x.controlled_wait (e.address (e.scalar refl)) (e.address (e.scalar refl)) (comma.more (comma.one x.number) x.number))))
    (st.simple (x.give_back x.null_of_thread)))))

pub functions_are_spelled : Functions
unfolding lexeme name_of number_of single double is_word after_include definition defined_name defined_number
functions_are_spelled =
    p.plain (p.then_function (p.then_function (p.then_function (p.then_function (p.then_function p.none
    (d.function st.absent (d.int_function refl (d.ints (comma.more (comma.one (d.parameter refl)) (d.parameter refl)))) (st.SpellsBody.then st.SpellsBody.none
    (st.simple (x.give_back (x.of_int (from2 (e.binary (within 2 (e.primary (e.name refl))) refl refl (within 1 (e.primary (e.name refl)))))))))))
    (d.function st.present (d.void_function refl d.nothing) (st.SpellsBody.then st.SpellsBody.none
    (st.simple (x.give_back x.of_void)))))
    (d.function st.absent (d.void_function refl d.void) (st.SpellsBody.then st.SpellsBody.none
    st.empty)))
    (d.function st.absent (d.thread_function refl refl) (st.SpellsBody.then st.SpellsBody.none
    (st.simple (x.give_back x.zero_of_thread)))))
    (d.function st.absent (d.main d.SpellsVoid.absent) (st.SpellsBody.then st.SpellsBody.none
    (st.simple (x.give_back (x.of_main (whole (e.primary e.number))))))))

pub threads_are_spelled : Threads
unfolding lexeme name_of number_of single double is_word after_include definition defined_name defined_number
threads_are_spelled =
    p.plain (p.then_function p.none
    (d.function st.absent (d.main d.SpellsVoid.present) (st.SpellsBody.then (st.SpellsBody.then_slots (st.SpellsBody.then (st.SpellsBody.then (st.SpellsBody.then (st.SpellsBody.then (st.SpellsBody.then_slots st.SpellsBody.none
    (st.slots st.present (comma.one (st.SpellsSlot.one refl))))
    (st.simple (x.create (e.address (e.scalar refl)) refl e.null)))
    (st.simple (x.create (e.address (e.member refl (whole (e.primary e.number)))) refl (e.plain no_cast (e.primary e.number)))))
    (st.simple (x.create (e.address (e.member refl (whole (e.primary e.number)))) refl (e.cast e.long (e.primary (e.name refl))))))
    (st.simple (x.create (e.address (e.member refl (whole (e.primary e.number)))) refl (e.cast e.int_pointer (e.minus (e.primary e.number))))))
    (st.slots st.absent (comma.more (comma.one (st.several refl)) (st.SpellsSlot.one refl))))
    (st.simple (x.join (e.member refl (whole (e.primary e.number))))))))

pub philosophers_are_spelled : Philosophers
unfolding lexeme name_of number_of single double is_word after_include definition defined_name defined_number
philosophers_are_spelled =
    p.plain (p.then_function (p.then_function (p.then_cells (p.then_objects p.none
    (d.objects {o = d.mutex} st.absent (comma.one (d.SpellsObject.several refl))))
    (d.cells st.absent (comma.one (d.scalar refl))))
    (d.function st.absent (d.thread_function refl refl) (st.SpellsBody.then (st.SpellsBody.then (st.SpellsBody.then (st.SpellsBody.then (st.SpellsBody.then (st.SpellsBody.then (st.SpellsBody.then st.SpellsBody.none
    (st.simple (x.declare (comma.one (x.by_value refl (whole (e.primary (e.int_argument e.long refl))))))))
    (st.simple (x.lock (e.address (e.member refl (whole (e.primary (e.name refl))))))))
    (st.simple (x.lock (e.address (e.member refl (from1 (e.binary (within 1 (e.primary (e.parentheses (from2 (e.binary (within 2 (e.primary (e.name refl))) refl refl (within 1 (e.primary e.number))))))) refl refl (within 0 (e.primary e.number)))))))))
    (st.simple (x.step (x.count_after (e.scalar refl) refl))))
    (st.simple (x.unlock (e.address (e.member refl (from1 (e.binary (within 1 (e.primary (e.parentheses (from2 (e.binary (within 2 (e.primary (e.name refl))) refl refl (within 1 (e.primary e.number))))))) refl refl (within 0 (e.primary e.number)))))))))
    (st.simple (x.unlock (e.address (e.member refl (whole (e.primary (e.name refl))))))))
    (st.simple (x.give_back x.null_of_thread)))))
    (d.function st.absent (d.main d.SpellsVoid.present) (st.SpellsBody.then (st.SpellsBody.then (st.SpellsBody.then (st.SpellsBody.then (st.SpellsBody.then (st.SpellsBody.then (st.SpellsBody.then (st.SpellsBody.then (st.SpellsBody.then_slots st.SpellsBody.none
    (st.slots st.absent (comma.one (st.several refl))))
    (st.for (st.SpellsFirst.declare refl (whole (e.primary e.number))) (st.given (from3 (e.binary (within 3 (e.primary (e.name refl))) refl refl (within 2 (e.primary e.number))))) (st.SpellsLast.step (x.count_after (e.scalar refl) refl)) (st.single (st.simple (x.init_mutex (e.address (e.member refl (whole (e.primary (e.name refl))))))))))
    (st.simple (x.create (e.address (e.member refl (whole (e.primary e.number)))) refl (e.plain no_cast (e.primary e.number)))))
    (st.simple (x.create (e.address (e.member refl (whole (e.primary e.number)))) refl (e.plain no_cast (e.primary e.number)))))
    (st.simple (x.create (e.address (e.member refl (whole (e.primary e.number)))) refl (e.plain no_cast (e.primary e.number)))))
    (st.simple (x.join (e.member refl (whole (e.primary e.number))))))
    (st.simple (x.join (e.member refl (whole (e.primary e.number))))))
    (st.simple (x.join (e.member refl (whole (e.primary e.number))))))
    (st.simple (x.give_back (x.of_main (whole (e.primary e.number))))))))

pub defined_keywords_are_spelled : DefinedKeyword
unfolding lexeme name_of number_of single double is_word after_include definition defined_name defined_number
defined_keywords_are_spelled =
    p.plain (p.then_cells (p.then_definition p.none)
    (d.cells st.absent (comma.one (d.scalar_by refl d.plain))))

pub assignments_are_spelled : Assignments
unfolding lexeme name_of number_of single double is_word after_include definition defined_name defined_number
assignments_are_spelled =
    st.SpellsList.then (st.SpellsList.then (st.SpellsList.then (st.SpellsList.then (st.SpellsList.then (st.SpellsList.then (st.SpellsList.then (st.SpellsList.then (st.SpellsList.then (st.SpellsList.then st.SpellsList.none
    (st.simple (x.step (x.assign (e.scalar refl) (whole (e.primary e.number))))))
    (st.simple (x.step (x.change (e.member refl (whole (e.primary (e.name refl)))) refl (whole (e.primary e.number))))))
    (st.simple (x.step (x.change (e.scalar refl) refl (whole (e.primary (e.name refl)))))))
    (st.simple (x.step (x.change (e.scalar refl) refl (whole (e.primary e.number))))))
    (st.simple (x.step (x.change (e.scalar refl) refl (whole (e.primary e.number))))))
    (st.simple (x.step (x.change (e.scalar refl) refl (whole (e.primary e.number))))))
    (st.simple (x.step (x.count_after (e.scalar refl) refl))))
    (st.simple (x.step (x.count_after (e.member refl (whole (e.primary e.number))) refl))))
    (st.simple (x.step (x.count_before refl (e.scalar refl)))))
    (st.simple (x.step (x.count_before refl (e.member refl (whole (e.primary e.number))))))

pub calls_are_spelled : Calls
unfolding lexeme name_of number_of single double is_word after_include definition defined_name defined_number
calls_are_spelled =
    st.SpellsList.then (st.SpellsList.then (st.SpellsList.then (st.SpellsList.then (st.SpellsList.then (st.SpellsList.then (st.SpellsList.then st.SpellsList.none
    (st.simple (x.declare (comma.more (comma.more (comma.one (x.bare refl)) (x.by_value refl (whole (e.primary e.number)))) (x.by_call refl (e.with_arguments refl (comma.more (comma.one (whole (e.primary (e.name refl)))) (whole (e.primary e.number)))))))))
    (st.simple (x.call (e.no_arguments refl))))
    (st.simple (x.call_into (e.scalar refl) (e.with_arguments refl (comma.one (whole (e.primary (e.name refl))))))))
    (st.simple (x.call_into (e.member refl (whole (e.primary e.number))) (e.no_arguments refl))))
    (st.simple (x.call (e.no_arguments refl))))
    (st.simple (x.call (e.no_arguments refl))))
    (st.simple (x.call (e.no_arguments refl)))

pub library_calls_are_spelled : LibraryCalls
unfolding lexeme name_of number_of single double is_word after_include definition defined_name defined_number
library_calls_are_spelled =
    st.SpellsList.then (st.SpellsList.then (st.SpellsList.then (st.SpellsList.then (st.SpellsList.then (st.SpellsList.then (st.SpellsList.then (st.SpellsList.then (st.SpellsList.then (st.SpellsList.then st.SpellsList.none
    (st.simple (x.scan (e.address (e.scalar refl)))))
    (st.simple x.print))
    (st.simple (x.print_with (comma.more (comma.one (whole (e.primary (e.name refl)))) (whole (e.primary (e.name refl)))))))
    (st.simple (x.init_mutex (e.address (e.scalar refl)))))
    (st.simple (x.init_condition (e.address (e.scalar refl)))))
    (st.simple (x.lock (e.address (e.scalar refl)))))
    (st.simple (x.wait (e.address (e.scalar refl)) (e.address (e.scalar refl)))))
    (st.simple (x.unlock (e.address (e.member refl (whole (e.primary e.number)))))))
    (st.simple (x.signal (e.address (e.scalar refl)))))
    (st.simple (x.broadcast (e.address (e.scalar refl))))

pub expressions_are_spelled : Expressions
unfolding lexeme name_of number_of single double is_word after_include definition defined_name defined_number
expressions_are_spelled =
    st.SpellsList.then (st.SpellsList.then (st.SpellsList.then (st.SpellsList.then (st.SpellsList.then (st.SpellsList.then (st.SpellsList.then (st.SpellsList.then (st.SpellsList.then (st.SpellsList.then (st.SpellsList.then st.SpellsList.none
    (st.simple (x.step (x.assign (e.scalar refl) (from2 (e.binary (e.binary (within 2 (e.primary (e.name refl))) refl refl (within 1 (e.primary (e.name refl)))) refl refl (within 1 (e.primary (e.name refl)))))))))
    (st.simple (x.step (x.assign (e.scalar refl) (from2 (e.binary (within 2 (e.primary (e.name refl))) refl refl (within 1 (e.primary (e.parentheses (from2 (e.binary (within 2 (e.primary (e.name refl))) refl refl (within 1 (e.primary (e.name refl))))))))))))))
    (st.simple (x.step (x.assign (e.scalar refl) (from2 (e.binary (e.tighter (e.binary (e.binary (e.binary (within 1 (e.primary (e.name refl))) refl refl (within 0 (e.primary (e.name refl)))) refl refl (within 0 (e.primary (e.name refl)))) refl refl (within 0 (e.primary (e.name refl))))) refl refl (within 1 (e.primary (e.name refl)))))))))
    (st.simple (x.step (x.assign (e.scalar refl) (from3 (e.binary (e.tighter (e.binary (within 2 (e.primary (e.name refl))) refl refl (within 1 (e.primary (e.name refl))))) refl refl (within 2 (e.primary (e.name refl)))))))))
    (st.simple (x.step (x.assign (e.scalar refl) (from4 (e.binary (e.tighter (e.binary (within 3 (e.primary (e.name refl))) refl refl (within 2 (e.primary (e.name refl))))) refl refl (within 3 (e.primary (e.name refl)))))))))
    (st.simple (x.step (x.assign (e.scalar refl) (from4 (e.binary (e.tighter (e.binary (within 3 (e.primary (e.name refl))) refl refl (within 2 (e.primary (e.name refl))))) refl refl (within 3 (e.primary (e.parentheses (from3 (e.binary (within 3 (e.primary (e.name refl))) refl refl (within 2 (e.primary (e.name refl))))))))))))))
    (st.simple (x.step (x.assign (e.scalar refl) (e.binary (e.binary (whole (e.primary (e.name refl))) refl refl (e.binary (within 5 (e.primary (e.name refl))) refl refl (within 4 (e.primary (e.name refl))))) refl refl (within 5 (e.primary (e.name refl))))))))
    (st.simple (x.step (x.assign (e.scalar refl) (whole (e.not (e.minus (e.primary (e.name refl)))))))))
    (st.simple (x.step (x.assign (e.scalar refl) (whole (e.minus (e.minus (e.primary e.number))))))))
    (st.simple (x.step (x.assign (e.scalar refl) (from2 (e.binary (within 2 (e.not (e.primary (e.name refl)))) refl refl (within 1 (e.primary (e.name refl)))))))))
    (st.simple (x.step (x.assign (e.scalar refl) (whole (e.primary (e.element refl (from2 (e.binary (within 2 (e.primary (e.element refl (whole (e.primary e.number))))) refl refl (within 1 (e.primary e.number))))))))))

pub casts_are_spelled : Casts
unfolding lexeme name_of number_of single double is_word after_include definition defined_name defined_number
casts_are_spelled =
    st.SpellsList.then (st.SpellsList.then (st.SpellsList.then (st.SpellsList.then (st.SpellsList.then st.SpellsList.none
    (st.simple (x.step (x.assign (e.scalar refl) (whole (e.primary (e.argument e.long refl)))))))
    (st.simple (x.step (x.assign (e.scalar refl) (whole (e.primary (e.argument e.int_pointer refl)))))))
    (st.simple (x.step (x.assign (e.scalar refl) (whole (e.primary (e.int_argument e.long refl)))))))
    (st.simple (x.step (x.assign (e.scalar refl) (whole (e.primary (e.parentheses (whole (e.primary (e.name refl))))))))))
    (st.simple (x.step (x.assign (e.scalar refl) (from2 (e.binary (within 2 (e.primary (e.name refl))) refl refl (within 1 (e.primary (e.name refl))))))))

pub choices_are_spelled : Choices
unfolding lexeme name_of number_of single double is_word after_include definition defined_name defined_number
choices_are_spelled =
    st.SpellsList.then (st.SpellsList.then st.SpellsList.none
    (st.if_only (st.value (whole (e.primary (e.name refl)))) (st.single (st.if_else (st.value (whole (e.primary (e.name refl)))) (st.single (st.simple (x.step (x.assign (e.scalar refl) (whole (e.primary e.number)))))) (st.single (st.simple (x.step (x.assign (e.scalar refl) (whole (e.primary e.number))))))))))
    (st.if_else (st.value (whole (e.primary (e.name refl)))) (st.braces (st.SpellsList.then st.SpellsList.none
    (st.if_only (st.value (whole (e.primary (e.name refl)))) (st.single st.empty)))) (st.single (st.if_else (st.value (whole (e.primary (e.name refl)))) (st.single st.empty) (st.braces (st.SpellsList.then (st.SpellsList.then st.SpellsList.none
    (st.simple (x.step (x.assign (e.scalar refl) (whole (e.primary e.number))))))
    (st.simple (x.step (x.assign (e.scalar refl) (whole (e.primary e.number))))))))))

pub trylocks_are_spelled : Trylocks
unfolding lexeme name_of number_of single double is_word after_include definition defined_name defined_number
trylocks_are_spelled =
    st.SpellsList.then (st.SpellsList.then (st.SpellsList.then (st.SpellsList.then (st.SpellsList.then (st.SpellsList.then (st.SpellsList.then (st.SpellsList.then st.SpellsList.none
    (st.if_else (st.tried (st.try (e.address (e.scalar refl)))) (st.single (st.simple (x.step (x.assign (e.scalar refl) (whole (e.primary e.number)))))) (st.single (st.simple (x.step (x.assign (e.scalar refl) (whole (e.primary e.number))))))))
    (st.if_else (st.not_tried (st.try (e.address (e.member refl (whole (e.primary (e.name refl))))))) (st.single (st.simple (x.step (x.assign (e.scalar refl) (whole (e.primary e.number)))))) (st.single (st.simple (x.step (x.assign (e.scalar refl) (whole (e.primary e.number))))))))
    (st.if_else (st.zero (st.try (e.address (e.scalar refl)))) (st.single (st.simple (x.step (x.assign (e.scalar refl) (whole (e.primary e.number)))))) (st.single (st.simple (x.step (x.assign (e.scalar refl) (whole (e.primary e.number))))))))
    (st.if_else (st.other (st.try (e.address (e.member refl (whole (e.primary e.number)))))) (st.single (st.simple (x.step (x.assign (e.scalar refl) (whole (e.primary e.number)))))) (st.single (st.simple (x.step (x.assign (e.scalar refl) (whole (e.primary e.number))))))))
    (st.if_only (st.tried (st.try (e.address (e.scalar refl)))) (st.single (st.simple (x.step (x.assign (e.scalar refl) (whole (e.primary e.number))))))))
    (st.if_only (st.not_tried (st.try (e.address (e.member refl (whole (e.primary (e.name refl))))))) (st.single (st.simple (x.step (x.assign (e.scalar refl) (whole (e.primary e.number))))))))
    (st.if_only (st.zero (st.try (e.address (e.scalar refl)))) (st.single (st.simple (x.step (x.assign (e.scalar refl) (whole (e.primary e.number))))))))
    (st.if_only (st.other (st.try (e.address (e.member refl (whole (e.primary e.number)))))) (st.single (st.simple (x.step (x.assign (e.scalar refl) (whole (e.primary e.number)))))))

pub loops_are_spelled : Loops
unfolding lexeme name_of number_of single double is_word after_include definition defined_name defined_number
loops_are_spelled =
    st.SpellsList.then (st.SpellsList.then (st.SpellsList.then (st.SpellsList.then st.SpellsList.none
    (st.while (whole (e.primary (e.name refl))) (st.single (st.simple (x.step (x.count_after (e.scalar refl) refl))))))
    (st.for st.SpellsFirst.none st.missing st.SpellsLast.none (st.braces st.SpellsList.none)))
    (st.for (st.SpellsFirst.declare refl (whole (e.primary e.number))) (st.given (from3 (e.binary (within 3 (e.primary (e.name refl))) refl refl (within 2 (e.primary e.number))))) (st.SpellsLast.step (x.count_after (e.scalar refl) refl)) (st.single (st.simple (x.step (x.assign (e.scalar refl) (whole (e.primary (e.name refl)))))))))
    (st.for (st.SpellsFirst.step (x.assign (e.scalar refl) (whole (e.primary e.number)))) (st.given (whole (e.primary e.number))) st.SpellsLast.none (st.single (st.if_only (st.value (whole (e.primary (e.name refl)))) (st.single st.empty))))

pub lines_are_spelled : Lines
unfolding lexeme name_of number_of single double is_word after_include definition defined_name defined_number
lines_are_spelled =
    st.SpellsList.then (st.SpellsList.then (st.SpellsList.then (st.SpellsList.then (st.SpellsList.then st.SpellsList.none
    (st.simple (x.step (x.assign (e.member refl (whole (e.primary e.number))) (whole (e.primary e.number))))))
    (st.simple (x.step (x.count_before refl (e.scalar refl)))))
    (st.simple (x.declare (comma.one (x.by_call refl (e.no_arguments refl))))))
    (st.for (st.SpellsFirst.declare refl (whole (e.primary e.number))) st.missing (st.SpellsLast.step (x.count_after (e.scalar refl) refl)) (st.braces st.SpellsList.none)))
    (st.simple (x.give_back (x.of_main (whole (e.primary e.number)))))
