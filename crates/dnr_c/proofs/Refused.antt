-- How it is told that a seat is not opened.
use Rattle.std.proofs.Common.{ℕ, List}
use Rattle.dnr_c.specs.Faults.{Fails, IsToldAs, IsRefused}
use Rattle.dnr_c.specs.declared.code.Told.{Told}
use Rattle.dnr_c.specs.declared.given.GivenText.{GivenText}
use Rattle.dnr_c.specs.declared.given.GivenFile.{GivenFile}
use Rattle.dnr_c.specs.declared.opening.Fault.{Fault}

pub refused_so : (words : List GivenText) (files : List GivenFile) (fault : Fault) (told : Told) (out : List ℕ) → Fails words files fault → IsToldAs fault told out → IsRefused words files told.code told.length out
refused_so words files fault told out fails is = record { fault = fault; fails = fails; told = is }
