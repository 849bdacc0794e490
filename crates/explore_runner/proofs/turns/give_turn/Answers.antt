use Rattle.std.proofs.Common.{ℕ, Option, subst}
use Rattle.std.proofs.lemmas.Option.{slice_get_within}
use Rattle.book.specs.declared.task.Serial.{Serial}
use Rattle.book.specs.Tasks.{Running}
use Rattle.book.specs.Turns.{Served}
use Rattle.explore_runner.specs.Giving.{Leaves, queues}
use Rattle.explore_runner.proofs.Turning.{popped_runs, commits, turn_on, turn_turned, turn_entered, has_queue}
use Rattle.explore_runner.proofs.turns.give_turn.Goals as goal

pub serial-requires : goal.serial-requires
serial-requires c =
    let b = c.args.book.now in
    let old = queues c.args.waiting.now.items in
    let new = queues c.next.new.waiting.items in
    let w = subst (λ (r : Option ℕ). Leaves old c.args.instance r new) c.in-Some.is c.next.ensures in
    record { exists = slice_get_within b.tasks c.in-Some.task Running (popped_runs b old new c.args.instance c.in-Some.task c.requires.underway w) }

pub unreachable-requires-in-NotRunning : goal.unreachable-requires-in-NotRunning
unreachable-requires-in-NotRunning c =
    let b = c.args.book.now in
    let old = queues c.args.waiting.now.items in
    let new = queues c.next.new.waiting.items in
    let w = subst (λ (r : Option ℕ). Leaves old c.args.instance r new) c.in-Some.is c.next.ensures in
    commits b old new c.args.instance c.in-Some.task c.requires.underway w c.serial.result c.serial.new.self c.requires.turn c.serial.ensures.served c.in-NotRunning.is

pub returns-in-Committed-clause-underway : goal.returns-in-Committed-clause-underway
returns-in-Committed-clause-underway c =
    let b = c.args.book.now in
    let old = queues c.args.waiting.now.items in
    let new = queues c.next.new.waiting.items in
    let w = subst (λ (r : Option ℕ). Leaves old c.args.instance r new) c.in-Some.is c.next.ensures in
    let s = subst (λ (r : Serial). Served b (record { 0 = c.in-Some.task }) r c.serial.new.self) c.in-Committed.is c.serial.ensures.served in
    turn_on b old new c.args.instance c.in-Some.task c.requires.underway w c.serial.new.self s.3

pub returns-in-Committed-clause-turned : goal.returns-in-Committed-clause-turned
returns-in-Committed-clause-turned c =
    let b = c.args.book.now in
    let old = queues c.args.waiting.now.items in
    let new = queues c.next.new.waiting.items in
    let w = subst (λ (r : Option ℕ). Leaves old c.args.instance r new) c.in-Some.is c.next.ensures in
    let s = subst (λ (r : Serial). Served b (record { 0 = c.in-Some.task }) r c.serial.new.self) c.in-Committed.is c.serial.ensures.served in
    turn_turned b old new c.args.instance c.in-Some.task c.requires.underway w c.serial.new.self s.3 (has_queue old c.args.instance c.requires.turn.left)

pub returns-in-Committed-clause-entered : goal.returns-in-Committed-clause-entered
returns-in-Committed-clause-entered c =
    let b = c.args.book.now in
    let old = queues c.args.waiting.now.items in
    let new = queues c.next.new.waiting.items in
    let w = subst (λ (r : Option ℕ). Leaves old c.args.instance r new) c.in-Some.is c.next.ensures in
    let s = subst (λ (r : Serial). Served b (record { 0 = c.in-Some.task }) r c.serial.new.self) c.in-Committed.is c.serial.ensures.served in
    turn_entered b old new c.args.instance c.in-Some.task c.requires.underway w c.serial.new.self s.3
