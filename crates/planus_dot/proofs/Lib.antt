mod Added
mod Cut
mod Read
