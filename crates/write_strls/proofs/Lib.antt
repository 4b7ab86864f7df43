pub mod TurnLaws
pub mod RecordLaws
pub mod RoomLaws
pub mod LoopLaws
