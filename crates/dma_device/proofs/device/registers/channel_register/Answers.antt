use Rattle.std.proofs.Common.{◌-◌, ◌/◌, ◌%◌, refl}
use Rattle.std.proofs.lemmas.Bool.{eq-eqb, le-ltb, lt-ltb, ne_eqb}
use Rattle.dma_device.proofs.Found.{found_at, none_at}
use Rattle.dma_device.proofs.device.registers.channel_register.Goals as goal

pub returns-in-Some : goal.returns-in-Some
returns-in-Some c =
    let ts = c.args.threads.now in
    let at = c.args.at in
    let lookup = c.in-Some.ensures.lookup in
    let found = (found_at ts ts ((at - 64) / 4) c.in-Some.thread.now refl lookup.0 lookup.1).1 in
    rw (lt-ltb at 256 c.if-at-lt-CSR.true, found) refl

pub returns-in-None : goal.returns-in-None
returns-in-None c =
    let ts = c.args.threads.now in
    let at = c.args.at in
    rw (lt-ltb at 256 c.if-at-lt-CSR.true, none_at ts ts ((at - 64) / 4) refl c.in-None.ensures.lookup.0) refl

pub returns-in-Some-get : goal.returns-in-Some-get
returns-in-Some-get c =
    let ts = c.args.threads.now in
    let at = c.args.at in
    let lookup = c.in-Some-get.ensures.lookup in
    let found = (found_at ts ts ((at - 256) / 8) c.in-Some-get.thread.now refl lookup.0 lookup.1).1 in
    rw (le-ltb at 256 c.if-at-lt-CSR.false, lt-ltb at 1024 c.if-at-lt-SAR.true, found, eq-eqb (at % 8) 0 c.if-at-eq0.true) c.csr.ensures

pub returns-in-Some-2 : goal.returns-in-Some-2
returns-in-Some-2 c =
    let ts = c.args.threads.now in
    let at = c.args.at in
    let lookup = c.in-Some-get.ensures.lookup in
    let found = (found_at ts ts ((at - 256) / 8) c.in-Some-get.thread.now refl lookup.0 lookup.1).1 in
    rw (le-ltb at 256 c.if-at-lt-CSR.false, lt-ltb at 1024 c.if-at-lt-SAR.true, found, ne_eqb (at % 8) 0 c.if-at-eq0.false) refl

pub returns-in-None-get : goal.returns-in-None-get
returns-in-None-get c =
    let ts = c.args.threads.now in
    let at = c.args.at in
    let none = none_at ts ts ((at - 256) / 8) refl c.in-None-get.ensures.lookup.0 in
    rw (le-ltb at 256 c.if-at-lt-CSR.false, lt-ltb at 1024 c.if-at-lt-SAR.true, none) refl

pub returns-in-Some-get-2 : goal.returns-in-Some-get-2
returns-in-Some-get-2 c =
    let ts = c.args.threads.now in
    let at = c.args.at in
    let lookup = c.in-Some-get-2.ensures.lookup in
    let found = (found_at ts ts ((at - 1024) / 32) c.in-Some-get-2.thread.now refl lookup.0 lookup.1).1 in
    rw (le-ltb at 256 c.if-at-lt-CSR.false, le-ltb at 1024 c.if-at-lt-SAR.false, found) c.address_register.ensures

pub returns-in-None-get-2 : goal.returns-in-None-get-2
returns-in-None-get-2 c =
    let ts = c.args.threads.now in
    let at = c.args.at in
    let none = none_at ts ts ((at - 1024) / 32) refl c.in-None-get-2.ensures.lookup.0 in
    rw (le-ltb at 256 c.if-at-lt-CSR.false, le-ltb at 1024 c.if-at-lt-SAR.false, none) refl
