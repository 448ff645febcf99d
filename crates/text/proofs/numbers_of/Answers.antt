use Rattle.theory.specs.Refusal.{told}
use Rattle.text.proofs.numbers_of.Goals as goal

pub returns-in-BadKind : goal.returns-in-BadKind
unfolding told
returns-in-BadKind c = rw c.in-BadKind.is c.two.ensures

pub returns-in-CutRecord : goal.returns-in-CutRecord
unfolding told
returns-in-CutRecord c = rw c.in-CutRecord.is c.two-in-CutRecord.ensures

pub returns-in-PastLimit : goal.returns-in-PastLimit
unfolding told
returns-in-PastLimit c = rw c.in-PastLimit.is c.two-in-PastLimit.ensures

pub returns-in-BadAtom : goal.returns-in-BadAtom
unfolding told
returns-in-BadAtom c = rw c.in-BadAtom.is c.two-in-BadAtom.ensures

pub returns-in-BadOperand : goal.returns-in-BadOperand
unfolding told
returns-in-BadOperand c = rw c.in-BadOperand.is c.two-in-BadOperand.ensures

pub returns-in-NoOperands : goal.returns-in-NoOperands
unfolding told
returns-in-NoOperands c = rw c.in-NoOperands.is c.two-in-NoOperands.ensures

pub returns-in-BadRoot : goal.returns-in-BadRoot
unfolding told
returns-in-BadRoot c = rw c.in-BadRoot.is c.two-in-BadRoot.ensures

pub returns-in-NotRising : goal.returns-in-NotRising
unfolding told
returns-in-NotRising c = rw c.in-NotRising.is c.two-in-NotRising.ensures

pub returns-in-ShortBuffer : goal.returns-in-ShortBuffer
unfolding told
returns-in-ShortBuffer c = rw c.in-ShortBuffer.is c.two-in-ShortBuffer.ensures

pub returns-in-UnsupportedRoot : goal.returns-in-UnsupportedRoot
unfolding told
returns-in-UnsupportedRoot c = rw c.in-UnsupportedRoot.is c.two-in-UnsupportedRoot.ensures

pub returns-in-UnsupportedBody : goal.returns-in-UnsupportedBody
unfolding told
returns-in-UnsupportedBody c = rw c.in-UnsupportedBody.is

pub returns-in-PositiveCycle : goal.returns-in-PositiveCycle
unfolding told
returns-in-PositiveCycle c = rw c.in-PositiveCycle.is c.two-in-PositiveCycle.ensures

pub returns-in-RankShape : goal.returns-in-RankShape
unfolding told
returns-in-RankShape c = rw c.in-RankShape.is c.two-in-RankShape.ensures

pub returns-in-RankOrder : goal.returns-in-RankOrder
unfolding told
returns-in-RankOrder c = rw c.in-RankOrder.is c.two-in-RankOrder.ensures

pub returns-in-ForeignStamp : goal.returns-in-ForeignStamp
unfolding told
returns-in-ForeignStamp c = rw c.in-ForeignStamp.is c.two-in-ForeignStamp.ensures

pub returns-in-StrayBit : goal.returns-in-StrayBit
unfolding told
returns-in-StrayBit c = rw c.in-StrayBit.is c.two-in-StrayBit.ensures

pub returns-in-BadEntry : goal.returns-in-BadEntry
unfolding told
returns-in-BadEntry c = rw c.in-BadEntry.is c.two-in-BadEntry.ensures
