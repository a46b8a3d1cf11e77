pub mod Schema
pub mod Owner
pub mod Kind
pub mod Gauge
pub mod Mark
