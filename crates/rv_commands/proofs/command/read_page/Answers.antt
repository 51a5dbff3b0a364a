use Rattle.std.proofs.Common.{refl}
use Rattle.rv_commands.proofs.command.read_page.Goals as goal

pub returns-then-eq : goal.returns-then-eq
returns-then-eq c =
    let image = rw (c.as_slice.ensures, c.if-eq.true) at c.eq.ensures in
    rw (← image) refl

pub returns-then-eq-2 : goal.returns-then-eq-2
returns-then-eq-2 c =
    let image = rw (c.as_slice.ensures, c.if-eq.false) at c.eq.ensures in
    let list = rw (c.as_slice-2.ensures, c.if-eq-2.true) at c.eq-2.ensures in
    rw (← image, ← list) refl

pub returns-then-eq-3 : goal.returns-then-eq-3
returns-then-eq-3 c =
    let image = rw (c.as_slice.ensures, c.if-eq.false) at c.eq.ensures in
    let list = rw (c.as_slice-2.ensures, c.if-eq-2.false) at c.eq-2.ensures in
    let syms = rw (c.as_slice-3.ensures, c.if-eq-3.true) at c.eq-3.ensures in
    rw (← image, ← list, ← syms) refl

pub returns-then-eq-4 : goal.returns-then-eq-4
returns-then-eq-4 c =
    let image = rw (c.as_slice.ensures, c.if-eq.false) at c.eq.ensures in
    let list = rw (c.as_slice-2.ensures, c.if-eq-2.false) at c.eq-2.ensures in
    let syms = rw (c.as_slice-3.ensures, c.if-eq-3.false) at c.eq-3.ensures in
    let faults = rw (c.as_slice-4.ensures, c.if-eq-4.true) at c.eq-4.ensures in
    rw (← image, ← list, ← syms, ← faults) refl

pub returns-then-eq-5 : goal.returns-then-eq-5
returns-then-eq-5 c =
    let image = rw (c.as_slice.ensures, c.if-eq.false) at c.eq.ensures in
    let list = rw (c.as_slice-2.ensures, c.if-eq-2.false) at c.eq-2.ensures in
    let syms = rw (c.as_slice-3.ensures, c.if-eq-3.false) at c.eq-3.ensures in
    let faults = rw (c.as_slice-4.ensures, c.if-eq-4.false) at c.eq-4.ensures in
    let text = rw (c.as_slice-5.ensures, c.if-eq-5.true) at c.eq-5.ensures in
    rw (← image, ← list, ← syms, ← faults, ← text) refl

pub returns : goal.returns
returns c =
    let image = rw (c.as_slice.ensures, c.if-eq.false) at c.eq.ensures in
    let list = rw (c.as_slice-2.ensures, c.if-eq-2.false) at c.eq-2.ensures in
    let syms = rw (c.as_slice-3.ensures, c.if-eq-3.false) at c.eq-3.ensures in
    let faults = rw (c.as_slice-4.ensures, c.if-eq-4.false) at c.eq-4.ensures in
    let text = rw (c.as_slice-5.ensures, c.if-eq-5.false) at c.eq-5.ensures in
    rw (← image, ← list, ← syms, ← faults, ← text) refl
